-- None of the classes so far comes next.
use Rattle.std.proofs.Common.{◌≡◌, ◌<◌, ℕ, false}
use Rattle.jm_linker.specs.Orders.{is_next}
use Rattle.jm_linker.proofs.order.next_class.Given as goal

abbrev pub invariant-loop-class : goal.invariant-loop-class
invariant-loop-class l = (k : ℕ) → k < l.class → is_next l.classes l.placed k ≡ false
