use Rattle.std.proofs.Common.{◌∙◌, ap, rules}
use Rattle.std.specs.Prelude.{slice_get}
use Rattle.jm_values.specs.declared.value.Value.TheVariants.{Long}
use Rattle.jm_frames.specs.FrameView.{FrameView}
use Rattle.jm_frames.proofs.Units.{last_is, next_is, two_longs_left}
use Rattle.jm_frames.proofs.frame.Frame.drop_longs.Goals as goal

pub overflow_sub-self : goal.overflow_sub-self
overflow_sub-self c =
    let first = last_is _ c.pop.result (Long c.requires.top.0) _ _ c.pop.ensures.items c.pop.ensures.cases c.self.inside.stack.ok.0
    (ap (λ (f : FrameView). slice_get f.activation.stack 0) c.self.view_is ∙ c.requires.top.1) in
    let second = last_is _ c.pop-2.result (Long c.requires.below.0) _ _ c.pop-2.ensures.items c.pop-2.ensures.cases c.pop.new.self.ok.0
    (next_is _ _ first (ap (λ (f : FrameView). slice_get f.activation.stack 1) c.self.view_is ∙ c.requires.below.1)) in
    (two_longs_left _ _ _ _ first second c.self.invariant.0 c.self.invariant.1).0

pub invariant_of-self : goal.invariant_of-self
invariant_of-self c =
    let first = last_is _ c.pop.result (Long c.requires.top.0) _ _ c.pop.ensures.items c.pop.ensures.cases c.self.inside.stack.ok.0
    (ap (λ (f : FrameView). slice_get f.activation.stack 0) c.self.view_is ∙ c.requires.top.1) in
    let second = last_is _ c.pop-2.result (Long c.requires.below.0) _ _ c.pop-2.ensures.items c.pop-2.ensures.cases c.pop.new.self.ok.0
    (next_is _ _ first (ap (λ (f : FrameView). slice_get f.activation.stack 1) c.self.view_is ∙ c.requires.below.1)) in
    let left = two_longs_left _ _ _ _ first second c.self.invariant.0 c.self.invariant.1 in
    let room = c.self.invariant.2 in
    (left.1, left.2, search (rules, room))
