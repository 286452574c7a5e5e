use Rattle.jm_gen_heap.proofs.Putting.{IsPutTo}
use Rattle.jm_gen_heap.proofs.fields.put_references.Given as goal

abbrev pub invariant-loop-number : goal.invariant-loop-number
invariant-loop-number l = IsPutTo l.initial.store l.store l.object l.first l.next l.number l.places.items
