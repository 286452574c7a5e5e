use Rattle.std.proofs.Common.{◌≡◌, ◌+◌, ◌≤◌, ◌∙◌, length, sym, ap, subst}
use Rattle.std.specs.Prelude.{reverse}
use Rattle.std.specs.Slice.Iter.{iter_rest}
use Rattle.jm_values.specs.Activation.{units}
use Rattle.jm_values.specs.Rename.{value_shape, stack_shape}
use Rattle.jm_frames.proofs.Refilled.{written_back, units_refill, length_refill_reverse}
use Rattle.jm_frames.proofs.frame.Frame.put_places.Goals as goal

pub invariant_of-self : goal.invariant_of-self
invariant_of-self c =
    let stack = c.self.inside.stack in
    let new = c.put_operands.new.operands in
    let places = iter_rest c.put_locals.new.places in
    let filled : reverse new ≡ stack_shape.refill places (reverse stack.items) = c.put_operands.ensures.values ∙ ap (λ l. stack_shape.refill places (reverse l)) c.deref_mut-2.ensures.value in
    let long : length new ≡ stack.len = length_refill_reverse value_shape places new stack.items filled ∙ sym stack.ok.0 in
    let same : units (reverse new) ≡ units (reverse stack.items) = ap units filled ∙ units_refill places (reverse stack.items) in
    let back = written_back new stack.items stack.len long in
    let lengths = ap length back ∙ long ∙ stack.ok.0 in (
      ap (λ n. n + c.self.inside.longs) lengths ∙ c.self.invariant.0 ∙ sym (ap (λ l. units (reverse l)) back ∙ same),
      subst (λ n. n + c.self.inside.longs ≤ c.self.inside.max_stack) (sym lengths) c.self.invariant.1,
      c.self.invariant.2,
    )
