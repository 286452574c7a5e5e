-- How the run ended, or want of memory for the lines that tell it.
use Rattle.std.proofs.Common.{inl, inr, ◌∙◌}
use Rattle.jm_execute.proofs.Telling.{lines_said}
use Rattle.jm_execute.proofs.told_run.tell_last.Goals as goal

pub returns-in-Ok : goal.returns-in-Ok
returns-in-Ok g c = λ w m. inl (c.status_of.ensures w m, lines_said _ _ _ _ _ _ (c.as_bytes.ensures.value ∙ c.in-Ok.ensures w m) c.tell_lines.ensures)

pub returns-in-Err : goal.returns-in-Err
returns-in-Err g c = λ w m. inr c.tell_exhausted.ensures
