-- So many of the elements name the arrays below them, which are finished.
use Rattle.std.proofs.Common.{length}
use Rattle.jm_heap.specs.Allocation.{AllPlaces}
use Rattle.jm_heap.proofs.Naming.{IsNaming}
use Rattle.jm_heap.proofs.tree.+name_those_below.Given as goal

abbrev pub decreases-name_those_below : goal.decreases-name_those_below
decreases-name_those_below g l = length l.counts.now

abbrev pub invariant-loop-index : goal.invariant-loop-index
invariant-loop-index g l =
    IsNaming (g.H.Heap.content l.fn.heap) (g.H.Heap.content l.heap) l.places l.first l.component l.below l.index-end l.index l.next
    × AllPlaces (g.H.Heap.free l.heap) l.places
