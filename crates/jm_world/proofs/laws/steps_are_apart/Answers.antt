use Rattle.jm_world.proofs.ThreadsApart.{steps_are_apart}
use Rattle.jm_world.proofs.laws.steps_are_apart.Goals as goal

pub returns : goal.returns
returns c = steps_are_apart
