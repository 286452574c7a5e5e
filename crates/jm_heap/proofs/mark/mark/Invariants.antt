use Rattle.std.proofs.Common.{◌+◌, length}
use Rattle.jm_heap.specs.Marks.{unmarked}
use Rattle.jm_heap.proofs.MarkLemmas.{Frontier}
use Rattle.jm_heap.proofs.mark.mark.Given as goal

abbrev pub invariant-loop-place : goal.invariant-loop-place
invariant-loop-place l = Frontier l.slots.items l.roots l.marks.items l.pending.items

abbrev pub decreases-loop-place : goal.decreases-loop-place
decreases-loop-place l = unmarked l.marks.items + length l.pending.items
