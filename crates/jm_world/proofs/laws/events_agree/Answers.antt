use Rattle.jm_world.proofs.RenumberedRuns.{events_agree}
use Rattle.jm_world.proofs.laws.events_agree.Goals as goal

pub returns : goal.returns
returns c = events_agree
