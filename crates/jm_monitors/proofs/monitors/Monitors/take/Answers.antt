use Rattle.jm_monitors.proofs.Counted.{taken}
use Rattle.jm_monitors.proofs.monitors.Monitors.take.Goals as goal

pub invariant_of-self : goal.invariant_of-self
invariant_of-self c = (taken c.self.inside.held.entries c.remove.new.self.entries c.args.self.now c.args.serial c.self.view_is c.remove.ensures.entries c.remove.ensures.ordered c.self.invariant.counted).1

pub returns : goal.returns
returns c = (taken c.self.inside.held.entries c.remove.new.self.entries c.args.self.now c.args.serial c.self.view_is c.remove.ensures.entries c.remove.ensures.ordered c.self.invariant.counted).0
