use Rattle.jm_run_laws.proofs.ObjectsKept.{runs_have_places}
use Rattle.jm_run_laws.proofs.laws.runs_have_places.Goals as goal

pub returns : goal.returns
returns c = runs_have_places
