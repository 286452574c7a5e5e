use Rattle.jm_run_laws.proofs.CodeKept.{runs_stay_in_code}
use Rattle.jm_run_laws.proofs.laws.runs_stay_in_code.Goals as goal

pub returns : goal.returns
returns c = runs_stay_in_code
