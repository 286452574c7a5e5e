use Rattle.jm_run_laws.proofs.ObjectsKept.{events_keep_fields}
use Rattle.jm_run_laws.proofs.laws.events_keep_fields.Goals as goal

pub returns : goal.returns
returns c = events_keep_fields
