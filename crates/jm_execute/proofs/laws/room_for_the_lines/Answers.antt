-- No call fails.
use Rattle.jm_execute.proofs.Rooms.{lines_do_not_fail}
use Rattle.jm_execute.proofs.laws.room_for_the_lines.Goals as goal

pub returns : goal.returns
returns g c contents e ended out new_out err new_err whole room leaves = lines_do_not_fail contents _ e ended out new_out err new_err whole room leaves
