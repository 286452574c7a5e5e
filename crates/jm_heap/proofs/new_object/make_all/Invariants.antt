use Rattle.std.proofs.Common.{◌≡◌, ◌+◌}
use Rattle.jm_heap.specs.Stored.{numbered_from}
use Rattle.jm_heap.proofs.ShapesLemmas.{made_of}
use Rattle.jm_heap.proofs.new_object.make_all.Given as goal

abbrev pub invariant-loop-shape : goal.invariant-loop-shape
invariant-loop-shape l = record {
  serial : l.serial ≡ l.first + l.shape-index;
  made : l.slots.items ≡ numbered_from l.first (made_of l.shape-index l.shapes);
}
