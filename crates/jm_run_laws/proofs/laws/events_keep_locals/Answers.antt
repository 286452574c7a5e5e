use Rattle.jm_run_laws.proofs.LocalsKept.{events_keep_locals}
use Rattle.jm_run_laws.proofs.laws.events_keep_locals.Goals as goal

pub returns : goal.returns
returns c = events_keep_locals
