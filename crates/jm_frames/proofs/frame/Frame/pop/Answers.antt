use Rattle.std.proofs.Common.{rules}
use Rattle.jm_frames.proofs.Units.{longs_left}
use Rattle.jm_frames.proofs.frame.Frame.pop.Goals as goal

pub overflow_sub-self : goal.overflow_sub-self
overflow_sub-self c = (longs_left _ _ c.in-Some.ensures.items c.self.invariant.0 c.self.invariant.1 c.longs_in.ensures).0

pub invariant_of-self-2 : goal.invariant_of-self-2
invariant_of-self-2 c =
    let left = longs_left _ _ c.in-Some.ensures.items c.self.invariant.0 c.self.invariant.1 c.longs_in.ensures in
    let room = c.self.invariant.2 in
    (left.1, left.2, search (rules, room))
