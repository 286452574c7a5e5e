use Rattle.jm_world.proofs.KeepingNames.{events_keep_names}
use Rattle.jm_world.proofs.laws.events_keep_names.Goals as goal

pub returns : goal.returns
returns c = events_keep_names
