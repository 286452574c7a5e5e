use Rattle.jm_interp.proofs.Locked.{left_as}
use Rattle.jm_interp.proofs.monitors.leave.Goals as goal

pub returns-clause-left : goal.returns-clause-left
returns-clause-left g c =
    left_as g.H.Heap.content c.args.at c.args.state.now c.args.object c.serial-serial.result c.serial-serial.ensures c.exit.result c.exit.new.self
    c.exit.ensures.left c.exit.ensures.not_owned
