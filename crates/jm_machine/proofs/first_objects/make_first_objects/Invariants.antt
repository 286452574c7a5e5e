use Rattle.std.proofs.Common.{◌≡◌, take}
use Rattle.jm_machine.specs.FirstObjects.{Holds, first_objects}
use Rattle.jm_machine.proofs.first_objects.make_first_objects.Given as goal

abbrev pub invariant-loop-text : goal.invariant-loop-text
invariant-loop-text g l = record {
  limit : (g.H.Heap.content l.heap).limit ≡ (g.H.Heap.content l.fn.heap).limit;
  holds : Holds (g.H.Heap.content l.heap) l.roots (first_objects (take l.text-index l.literals));
}
