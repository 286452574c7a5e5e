-- The text and its line, or want of memory for that.
use Rattle.std.proofs.Common.{ap, inl, inr, refl, ◌∙◌}
use Rattle.jm_execute.specs.ClassTexts.{unsaid_line}
use Rattle.jm_execute.specs.Endings.{exhausted}
use Rattle.jm_execute.proofs.Telling.{untouched_told}
use Rattle.jm_execute.proofs.execution.tell_text.Goals as goal

pub returns-in-Ok : goal.returns-in-Ok
returns-in-Ok g c = λ commented class text unsaid.
    let name = c.args.file.now in
    inl (c.tell_said.ensures name commented class text unsaid (c.deref.ensures ∙ c.in-Ok.ensures ∙ ap (unsaid_line name) unsaid))

pub returns-in-Err : goal.returns-in-Err
returns-in-Err g c = λ commented class text unsaid. inr (untouched_told _ _ exhausted _ _ _ _ c.requires.out refl c.tell_exhausted.ensures)
