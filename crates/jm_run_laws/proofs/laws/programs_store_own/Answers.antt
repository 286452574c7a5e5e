use Rattle.jm_run_laws.proofs.StoresOwn.{programs_store_own}
use Rattle.jm_run_laws.proofs.laws.programs_store_own.Goals as goal

pub returns : goal.returns
returns c = programs_store_own
