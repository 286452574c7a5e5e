use Rattle.jm_world.proofs.ThreadsApart.{plain_steps_commute}
use Rattle.jm_world.proofs.laws.plain_steps_commute.Goals as goal

pub returns : goal.returns
returns c = plain_steps_commute
