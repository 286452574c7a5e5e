use Rattle.jm_run_laws.proofs.CodeKept.{events_stay_in_code}
use Rattle.jm_run_laws.proofs.laws.events_stay_in_code.Goals as goal

pub returns : goal.returns
returns c = events_stay_in_code
