-- The machine is that of the loaded world.
use Rattle.jm_premises.proofs.Beginnings.{begins}
use Rattle.jm_premises.proofs.machines.loaded.Goals as goal

pub returns-in-Ok : goal.returns-in-Ok
returns-in-Ok g c = begins c.in-Ok.machine _ _ c.in-Ok.ensures.1
