use Rattle.std.proofs.Common.{Some, None}
use Rattle.jm_monitors.proofs.InTheModel.{owner_of}
use Rattle.jm_monitors.proofs.monitors.Monitors.owner.Goals as goal

pub returns-in-Some : goal.returns-in-Some
returns-in-Some c = owner_of c.args.self.now c.args.serial (Some c.in-Some.held) c.in-Some.ensures.held

pub returns-in-None : goal.returns-in-None
returns-in-None c = owner_of c.args.self.now c.args.serial None c.in-None.ensures.held
