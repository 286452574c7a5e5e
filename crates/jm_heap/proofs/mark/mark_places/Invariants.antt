use Rattle.std.proofs.Common.{take}
use Rattle.jm_heap.specs.Marks.{MarkedAll}
use Rattle.jm_heap.proofs.mark.mark_places.Given as goal

abbrev pub invariant-loop-place : goal.invariant-loop-place
invariant-loop-place l = MarkedAll (take l.place-index l.places) l.initial.marks.items l.initial.pending.items l.marks.items l.pending.items
