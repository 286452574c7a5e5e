use Rattle.jm_gen_heap.proofs.Putting.{AreBackTo}
use Rattle.jm_gen_heap.proofs.fields.put_fields.Given as goal

abbrev pub invariant-loop-object : goal.invariant-loop-object
invariant-loop-object l = AreBackTo l.objects l.places.items l.first l.next l.object-index l.initial.store l.store
