use Rattle.std.proofs.Common.{◌≡◌, ◌*◌, ◌^◌, ◌≤◌, ℕ, List, Some, length, vec_capacity}
use Rattle.std.specs.Prelude.{slice_get}
use Rattle.jm_blocks.specs.Stores.{Blocks}
use Rattle.jm_copy.specs.Numbers.{before, lane_counts, AreStarts}
use Rattle.jm_copy.proofs.starts.number_all.Given as goal

abbrev pub invariant-loop-store : goal.invariant-loop-store
invariant-loop-store l = record {
  many : length l.numbers.items ≡ l.store-index;
  each : (k : ℕ) (s : Blocks) (starts : List ℕ) → slice_get l.stores k ≡ Some s → slice_get l.numbers.items k ≡ Some starts → AreStarts (before k (lane_counts l.stores)) s starts;
  count : l.count ≡ before l.store-index (lane_counts l.stores);
  few : l.count ≤ l.store-index * 2 ^ 57;
  room : length l.stores ≤ vec_capacity l.numbers;
}
