use Rattle.jm_world.proofs.Reaching.{reach_is_least}
use Rattle.jm_world.proofs.laws.reach_is_the_least_set.Goals as goal

pub returns : goal.returns
returns c = reach_is_least
