use Rattle.std.proofs.Common.{◌∙◌, ap, rules}
use Rattle.std.specs.Prelude.{slice_get}
use Rattle.jm_frames.specs.FrameView.{FrameView}
use Rattle.jm_frames.proofs.Units.{last_is, longs_left}
use Rattle.jm_frames.proofs.frame.Frame.drop_value.Goals as goal

pub overflow_sub-self : goal.overflow_sub-self
overflow_sub-self c =
    let items = last_is _ c.pop.result _ _ _ c.pop.ensures.items c.pop.ensures.cases c.self.inside.stack.ok.0
    (ap (λ (f : FrameView). slice_get f.activation.stack 0) c.self.view_is ∙ c.requires) in
    (longs_left _ _ items c.self.invariant.0 c.self.invariant.1 c.longs_in.ensures).0

pub invariant_of-self : goal.invariant_of-self
invariant_of-self c =
    let items = last_is _ c.pop.result _ _ _ c.pop.ensures.items c.pop.ensures.cases c.self.inside.stack.ok.0
    (ap (λ (f : FrameView). slice_get f.activation.stack 0) c.self.view_is ∙ c.requires) in
    let left = longs_left _ _ items c.self.invariant.0 c.self.invariant.1 c.longs_in.ensures in
    let room = c.self.invariant.2 in
    (left.1, left.2, search (rules, room))
