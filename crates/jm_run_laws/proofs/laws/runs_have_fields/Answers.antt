use Rattle.jm_run_laws.proofs.ObjectsKept.{runs_have_fields}
use Rattle.jm_run_laws.proofs.laws.runs_have_fields.Goals as goal

pub returns : goal.returns
returns c = runs_have_fields
