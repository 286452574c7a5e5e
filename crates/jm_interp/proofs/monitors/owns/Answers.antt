use Rattle.std.proofs.Common.{Some, None, refl}
use Rattle.jm_interp.proofs.Locked.{owns_is}
use Rattle.jm_interp.proofs.monitors.owns.Goals as goal

pub returns-in-Some : goal.returns-in-Some
returns-in-Some g c =
    owns_is g.H.Heap.content c.args.at c.args.state.now c.args.object c.serial.result c.serial.ensures (Some c.in-Some.held) c.in-Some.ensures.held refl

pub returns-in-None : goal.returns-in-None
returns-in-None g c =
    owns_is g.H.Heap.content c.args.at c.args.state.now c.args.object c.serial.result c.serial.ensures None c.in-None.ensures.held refl
