-- The key, the line above, and the parts.
use Rattle.std.proofs.Common.{◌≡◌, ◌++◌, ◌∷◌, [], OnOk, subst}
use Rattle.jm_debug.specs.Texts.{reference_text}
use Rattle.jm_film.specs.Shown.{object_section_lines, section}
use Rattle.jm_film.proofs.ObjectsPut.{object_lines_written}
use Rattle.jm_film.proofs.objects.put_object.Goals as goal

pub returns : goal.returns
unfolding reference_text
returns g c =
    let lines = object_section_lines c.args.object.now.program c.args.object.now.object in
    let key : c.in_ok-key.key.bytes.items ≡ reference_text c.args.number = c.in_ok-key.ensures.ok in
    let first = rw c.new-text.ensures.bytes at c.in_ok-write_type.ensures in
    let text = object_lines_written c.args.object.now.program c.args.object.now.object _ _ _ _ _ first c.kind.ensures c.cells.ensures c.in_ok-write_cells.ensures c.in_ok-write_parts.ensures in
    subst (λ k. OnOk c.put.result (c.put.new.view.items ≡ c.args.view.now.items ++ section k lines ∷ [])) key (c.put.ensures lines text)
