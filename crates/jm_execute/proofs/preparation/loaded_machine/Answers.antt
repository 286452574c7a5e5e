-- The machine is that of the loaded world.
use Rattle.jm_execute.proofs.Beginnings.{stands, loads}
use Rattle.jm_execute.proofs.preparation.loaded_machine.Goals as goal

pub returns-in-Ok-clause-program : goal.returns-in-Ok-clause-program
returns-in-Ok-clause-program g c = loads c.in-Ok.machine _ _ c.in-Ok.ensures.0 c.in-Ok.ensures.1

pub returns-in-Ok-clause-ready : goal.returns-in-Ok-clause-ready
returns-in-Ok-clause-ready g c = stands c.in-Ok.machine _ _ c.in-Ok.ensures.1
