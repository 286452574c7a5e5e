-- So many classes are placed.
use Rattle.std.proofs.Common.{◌≡◌, length}
use Rattle.jm_linker.proofs.OrderedSoFar.{AreOrdered}
use Rattle.jm_linker.proofs.order.order_of.Given as goal

abbrev pub invariant-loop-place : goal.invariant-loop-place
invariant-loop-place l = (length l.order.items ≡ l.place) × AreOrdered l.classes l.placed.items l.order.items
