use Rattle.jm_world.proofs.WholeMachine.{worlds_are_matched}
use Rattle.jm_world.proofs.laws.worlds_are_matched.Goals as goal

pub returns : goal.returns
returns c = worlds_are_matched
