-- The line of want of memory.
use Rattle.std.proofs.Common.{refl}
use Rattle.jm_execute.proofs.Telling.{lines_told}
use Rattle.jm_execute.proofs.execution.tell_exhausted.Goals as goal

pub returns : goal.returns
returns g c = (refl, lines_told _ _ _ _ _ c.requires c.write_out_of_memory-told.ensures)
