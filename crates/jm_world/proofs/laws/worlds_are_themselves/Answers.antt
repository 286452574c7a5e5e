use Rattle.jm_world.proofs.RenumberedRuns.{worlds_are_themselves}
use Rattle.jm_world.proofs.laws.worlds_are_themselves.Goals as goal

pub returns : goal.returns
returns c = worlds_are_themselves
