use Rattle.std.proofs.Common.{◌≡◌, ◌≤◌, sum_by}
use Rattle.jm_values.specs.Objects.{size_by}
use Rattle.jm_heap.specs.Cells.{class_size}
use Rattle.jm_heap.specs.NewObject.{AreShort}
use Rattle.jm_heap.proofs.ShapesLemmas.{made_of}
use Rattle.jm_heap.proofs.shape.cells_of_all.Given as goal

abbrev pub invariant-loop-shape : goal.invariant-loop-shape
invariant-loop-shape l = record {
  cells : l.cells ≡ sum_by (size_by class_size) (made_of l.shape-index l.shapes);
  within : l.cells ≤ l.limit;
  short : AreShort (made_of l.shape-index l.shapes);
}
