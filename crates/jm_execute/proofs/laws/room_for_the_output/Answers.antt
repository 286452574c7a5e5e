-- No call fails.
use Rattle.jm_execute.proofs.Rooms.{does_not_fail}
use Rattle.jm_execute.proofs.laws.room_for_the_output.Goals as goal

pub returns : goal.returns
returns g c contents e ended out new_out err new_err room leaves = does_not_fail contents _ e ended out new_out err new_err room leaves
