use Rattle.std.proofs.Common.{◌≡◌, ◌<◌, ◌^◌, ℕ, Some, take}
use Rattle.std.specs.Prelude.{slice_get}
use Rattle.jm_blocks.specs.Stores.{Blocks}
use Rattle.jm_nursery.specs.Nurseries.{young_cells}
use Rattle.jm_gen_heap.specs.Collections.{IsWhole}
use Rattle.jm_gen_heap.proofs.cells.young_cells.Given as goal

abbrev pub invariant-loop-number : goal.invariant-loop-number
invariant-loop-number l = record {
  value : young_cells (take l.number l.stores) < 2 ^ 64 → l.cells ≡ young_cells (take l.number l.stores);
  short : (n : ℕ) → n < l.number → (s : Blocks) → slice_get l.stores n ≡ Some s → IsWhole s;
}
