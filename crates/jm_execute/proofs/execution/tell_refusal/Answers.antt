-- Its line, or want of memory for it.
use Rattle.std.proofs.Common.{inl, inr, ◌∙◌}
use Rattle.jm_execute.proofs.Telling.{lines_said}
use Rattle.jm_execute.proofs.execution.tell_refusal.Goals as goal

pub returns-in-Ok : goal.returns-in-Ok
returns-in-Ok g c = inl (c.status-status.ensures, lines_said _ _ _ _ _ _ (c.as_bytes.ensures.value ∙ c.in-Ok.ensures) c.tell_lines.ensures)

pub returns-in-Err : goal.returns-in-Err
returns-in-Err g c = inr c.tell_exhausted.ensures
