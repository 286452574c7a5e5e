use Rattle.jm_run_laws.proofs.ThrownKept.{runs_throw_throwables}
use Rattle.jm_run_laws.proofs.laws.runs_throw_throwables.Goals as goal

pub returns : goal.returns
returns c = runs_throw_throwables
