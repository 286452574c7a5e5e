use Rattle.std.proofs.Common.{◌≡◌, ℕ, Some}
use Rattle.jm_blocks.specs.Objects.{Object}
use Rattle.jm_copy.specs.Copies.{made}
use Rattle.jm_copy.specs.Naming.{NamesNext}
use Rattle.jm_copy.proofs.Scanning.{rest}
use Rattle.jm_par_copy.specs.Front.{AddsNamed}
use Rattle.jm_par_copy.proofs.front.add_named.Given as goal

abbrev pub invariant-loop-next : goal.invariant-loop-next
invariant-loop-next l = (a : Object) × (made l.to l.place ≡ Some a) × (k : ℕ) × NamesNext a k l.next × AddsNamed a l.fn.places.items l.places.items

abbrev pub decreases-loop-next : goal.decreases-loop-next
decreases-loop-next l = rest l.next
