use Rattle.jm_monitors.proofs.Counted.{added}
use Rattle.jm_monitors.proofs.monitors.Monitors.add.Goals as goal

pub invariant_of-self-2 : goal.invariant_of-self-2
invariant_of-self-2 c =
    (added c.self.inside.held.entries c.insert.new.self.entries c.args.self.now c.args.serial c.args.held c.self.view_is c.requires.absent c.in_ok-insert.ensures.entries c.in_ok-insert.ensures.ordered c.self.invariant.counted c.requires.counted).1

pub returns-clause-ok : goal.returns-clause-ok
returns-clause-ok c =
    (added c.self.inside.held.entries c.insert.new.self.entries c.args.self.now c.args.serial c.args.held c.self.view_is c.requires.absent c.in_ok-insert.ensures.entries c.in_ok-insert.ensures.ordered c.self.invariant.counted c.requires.counted).0
