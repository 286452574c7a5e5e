-- The key, and the line.
use Rattle.std.proofs.Common.{◌≡◌, ◌++◌, ◌∷◌, [], OnOk, length, subst}
use Rattle.jm_machine.specs.ReachedObjects.{numbered_cells}
use Rattle.jm_debug.specs.Views.{heap_text}
use Rattle.jm_film.specs.Shown.{section}
use Rattle.jm_film.proofs.ObjectsPut.{size_written}
use Rattle.jm_film.proofs.objects.put_size.Goals as goal

pub returns : goal.returns
returns g c =
    let lines = heap_text (length c.args.objects.now.objects) (numbered_cells c.args.objects.now.objects) c.args.limit ∷ [] in
    let line = rw c.new-text.ensures.bytes at c.in_ok-write_heap.ensures in
    let text = size_written _ _ c.args.limit _ _ _ c.len.ensures c.cells.ensures line in
    subst (λ k. OnOk c.put.result (c.put.new.view.items ≡ c.args.view.now.items ++ section k lines ∷ [])) c.in_ok-key.ensures.ok (c.put.ensures lines text)
