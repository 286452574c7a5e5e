-- The key, and the line.
use Rattle.std.proofs.Common.{◌≡◌, ◌++◌, ◌∙◌, OnOk, subst, append_assoc}
use Rattle.std.specs.Prelude.{codes}
use Rattle.jm_machine.specs.Readers.{model_frame}
use Rattle.jm_film.specs.Shown.{frame_key, place_lines, section_of}
use Rattle.jm_film.proofs.frames.put_place.Goals as goal

pub returns : goal.returns
returns g c = λ program is.
    let lines = place_lines program (model_frame c.args.frame.now) in
    let key : c.in_ok-key.key.bytes.items ≡ frame_key (codes "w") c.args.thread c.args.height = c.in_ok-key.ensures.ok ∙ simp append_assoc in
    let text = rw c.new-text.ensures.bytes at (c.in_ok-write_place.ensures program is) in
    subst (λ k. OnOk c.put_if_any.result (c.put_if_any.new.view.items ≡ c.args.view.now.items ++ section_of k lines)) key (c.put_if_any.ensures lines text)
