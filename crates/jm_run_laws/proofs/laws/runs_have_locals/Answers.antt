use Rattle.jm_run_laws.proofs.LocalsKept.{runs_have_locals}
use Rattle.jm_run_laws.proofs.laws.runs_have_locals.Goals as goal

pub returns : goal.returns
returns c = runs_have_locals
