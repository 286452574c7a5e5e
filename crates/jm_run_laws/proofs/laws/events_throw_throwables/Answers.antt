use Rattle.jm_run_laws.proofs.ThrownKept.{events_throw_throwables}
use Rattle.jm_run_laws.proofs.laws.events_throw_throwables.Goals as goal

pub returns : goal.returns
returns c = events_throw_throwables
