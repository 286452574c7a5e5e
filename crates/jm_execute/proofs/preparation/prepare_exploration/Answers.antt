-- The program's machine.
use Rattle.std.proofs.Common.{refl}
use Rattle.jm_execute.proofs.RunVerdicts.{searched}
use Rattle.jm_execute.proofs.preparation.prepare_exploration.Goals as goal

pub returns : goal.returns
returns g c = searched _ _ _ refl c.deref.ensures.value _ _ c.machine_within.ensures.program
