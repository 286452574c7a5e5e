use Rattle.std.proofs.Common.{◌≡◌, ◌++◌, take}
use Rattle.jm_gen_heap.specs.Collections.{fields_of}
use Rattle.jm_gen_heap.proofs.fields.add_fields.Given as goal

abbrev pub invariant-loop-object : goal.invariant-loop-object
invariant-loop-object l = l.places.items ≡ l.initial.places.items ++ fields_of l.store (take l.object-index l.objects)
