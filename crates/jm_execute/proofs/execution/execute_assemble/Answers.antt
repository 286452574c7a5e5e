-- The class file, or how a text that gives none ends.
use Rattle.jm_execute.specs.Endings.{assembled}
use Rattle.jm_execute.proofs.Telling.{untouched_told}
use Rattle.jm_execute.proofs.execution.execute_assemble.Goals as goal

pub returns-in-Ok : goal.returns-in-Ok
returns-in-Ok g c = (assembled c.in-Ok.bytes.items, c.in-Ok.ensures, λ talk. talk, rw c.deref.ensures.value at c.tell_assembled.ensures)

pub returns-in-Err : goal.returns-in-Err
returns-in-Err g c = let (ending, allows, silent, none, told, whole) = c.tell_obstacle.ensures.job _ c.in-Err.ensures in (ending, allows, silent, untouched_told _ _ ending _ _ _ _ c.requires.out none told)
