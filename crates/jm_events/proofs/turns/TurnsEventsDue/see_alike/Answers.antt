-- In the same turn, or some turns later.
use Rattle.std.proofs.Common.{◌≡◌, ◌-◌, ◌%◌, ◌<◌, ℕ, true, sym, ◌∙◌, arith}
use Rattle.std.specs.Prelude.{nat_eq, not}
use Rattle.jm_events.specs.declared.turns.Turns.{Turns}
use Rattle.jm_events.proofs.Alike.{behind_past, behind_within}
use Rattle.jm_events.proofs.turns.TurnsEventsDue.see_alike.Goals as goal

pub returns-then-count-left : goal.returns-then-count-left
returns-then-count-left c =
    let t : Turns = c.args.self.now in
    let most = c.max-left.ensures in
    let few = c.if-count-left.true in
    let some : 0 < c.args.count = omega (arith, c.if-count-eq0.false) in
    let left : c.max-left.result - c.args.count ≡ t.left - c.args.count = omega (arith, most, few, some) in
    (λ i. record t { steps = c.saturating_sub-self.ensures i; left = left i; moved = true }) ∙ sym (behind_within c.args.count t some (omega (arith, most, few, some)))

pub returns-else-count-left : goal.returns-else-count-left
returns-else-count-left c =
    let t : Turns = c.args.self.now in
    let count = c.args.count in
    let most = c.max-left.ensures in
    let many = c.if-count-left.false in
    let over : ℕ = (count - c.max-left.result) % c.max.result in
    (λ i. record t { steps = c.saturating_sub-self.ensures i; left = t.quantum - over; moved = not (nat_eq over 0) })
    ∙ sym (behind_past count t over (omega (arith, most, many)) (λ i. (count - c.max-left.ensures i) % c.max.ensures i))
