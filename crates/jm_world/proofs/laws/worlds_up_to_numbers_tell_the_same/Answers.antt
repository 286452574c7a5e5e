use Rattle.jm_world.proofs.RenumberedRuns.{ones_tell_the_same}
use Rattle.jm_world.proofs.laws.worlds_up_to_numbers_tell_the_same.Goals as goal

pub returns : goal.returns
returns c = ones_tell_the_same
