use Rattle.std.proofs.Common.{◌≡◌, ℕ, false}
use Rattle.jm_blocks.specs.Stores.{objects_in, store_cells}
use Rattle.jm_copy.specs.Copies.{IsMark, is_above}
use Rattle.jm_copy.proofs.serial.rewind.Given as goal

abbrev pub invariant-loop-store : goal.invariant-loop-store
invariant-loop-store l = record {
  mark : IsMark l.store l.mark;
  below : (n : ℕ) → is_above l.mark n ≡ false → objects_in l.store n ≡ objects_in l.fn.store n;
}

abbrev pub decreases-loop-store : goal.decreases-loop-store
decreases-loop-store l = store_cells l.store.lists
