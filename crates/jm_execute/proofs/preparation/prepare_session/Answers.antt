-- The program's machine.
use Rattle.std.proofs.Common.{refl}
use Rattle.jm_execute.proofs.RunVerdicts.{debugged}
use Rattle.jm_execute.proofs.preparation.prepare_session.Goals as goal

pub returns-clause-session : goal.returns-clause-session
returns-clause-session g c = debugged _ _ _ refl c.deref.ensures.value _ _ c.machine_within.ensures.program
