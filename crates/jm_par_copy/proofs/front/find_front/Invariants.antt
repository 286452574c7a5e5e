use Rattle.jm_heap.specs.Allocation.{AllPlaces}
use Rattle.jm_par_copy.specs.Front.{IsAtFront}
use Rattle.jm_par_copy.proofs.front.find_front.Given as goal

abbrev pub invariant-loop-number : goal.invariant-loop-number
invariant-loop-number l = AllPlaces (IsAtFront l.copiers) l.places.items
