use Rattle.jm_world.proofs.KeepingCode.{events_keep_code}
use Rattle.jm_world.proofs.laws.events_keep_code.Goals as goal

pub returns : goal.returns
returns c = events_keep_code
