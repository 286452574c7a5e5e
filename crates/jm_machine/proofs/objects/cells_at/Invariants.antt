use Rattle.std.proofs.Common.{◌≡◌, take}
use Rattle.std.specs.Prelude.{sum_by}
use Rattle.jm_machine.proofs.ObjectCells.{place_cells}
use Rattle.jm_machine.proofs.objects.cells_at.Given as goal

abbrev pub invariant-loop-place : goal.invariant-loop-place
invariant-loop-place g l = l.total ≡ sum_by (place_cells l.linked (g.H.Heap.content l.heap)) (take l.place-index l.places)
