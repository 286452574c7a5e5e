use Rattle.std.proofs.Common.{◌≡◌, ◌+◌, ◌-◌, ◌≤◌, ◌∙◌, ℕ, List, drop, take, length, ap, sym, subst, rules}
use Rattle.std.specs.Prelude.{reverse}
use Rattle.jm_values.specs.Activation.{units}
use Rattle.jm_values.specs.declared.value.Value.{Value}
use Rattle.jm_frames.specs.FrameView.{FrameView, with_stack}
use Rattle.jm_frames.specs.contracts.frame.Frame.{the_view}
use Rattle.jm_frames.proofs.Units.{last_dropped, one_dropped, singles_kept}
use Rattle.jm_frames.proofs.frame.Frame.drop_operands.Goals as goal

pub invariant_of-self : goal.invariant_of-self
invariant_of-self c =
    let stack = c.self.inside.stack in
    let n = c.args.count in
    let is = c.truncate.ensures.items ∙ ap (λ l. take (l - n) stack.items) (c.len-then-count-len.ensures ∙ stack.ok.0) in
    let within = subst (λ l. n ≤ l) (c.len.ensures ∙ stack.ok.0) c.if-count-len.true in
    let none : c.self.inside.longs ≡ 0 = c.if-self-eq0.true in
    let Counted : List Value → ℕ → Type 0 = λ s k. (length s + k ≡ units (reverse s)) × (length s + k ≤ c.self.inside.max_stack) in
    let before : Counted stack.items 0 = subst (Counted stack.items) none (c.self.invariant.0, c.self.invariant.1) in
    let after : Counted (take (length stack.items - n) stack.items) 0 = singles_kept n stack.items within before.0 before.1 in
    let left : Counted c.truncate.new.self.items c.self.inside.longs =
    subst (λ s. Counted s c.self.inside.longs) (sym is) (subst (Counted (take (length stack.items - n) stack.items)) (sym none) after) in
    let room = c.self.invariant.2 in
    (left.0, left.1, search (rules, room))

pub returns-then-count-len : goal.returns-then-count-len
returns-then-count-len c =
    let stack = c.self.inside.stack in
    let n = c.args.count in
    let is = c.truncate.ensures.items ∙ ap (λ l. take (l - n) stack.items) (c.len-then-count-len.ensures ∙ stack.ok.0) in
    let within = subst (λ l. n ≤ l) (c.len.ensures ∙ stack.ok.0) c.if-count-len.true in
    ap (with_stack (the_view c.self.inside)) (ap reverse is ∙ last_dropped n stack.items within)
    ∙ ap (λ (f : FrameView). with_stack f (drop n f.activation.stack)) c.self.view_is

pub loop-popped-preserved : goal.loop-popped-preserved
loop-popped-preserved c =
    c.pop.ensures.frame
    ∙ ap (λ (f : FrameView). with_stack f (drop 1 f.activation.stack)) c.loop-popped.invariant
    ∙ ap (with_stack c.args.self.now) (one_dropped c.loop-popped._popped c.args.self.now.activation.stack)
