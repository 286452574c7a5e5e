use Rattle.std.proofs.Common.{◌≡◌, ◌+◌, ◌*◌, ◌<◌, ◌≤◌, ℕ, length, vec_capacity}
use Rattle.std.specs.Prelude.{slice_index}
use Rattle.jm_copy.specs.Numbers.{before, block_counts}
use Rattle.jm_copy.proofs.starts.Starts.of.Given as goal

abbrev pub invariant-loop-number : goal.invariant-loop-number
invariant-loop-number l = record {
  many : length l.starts.items ≡ l.number;
  each : (b : ℕ) → b < length l.starts.items → slice_index l.starts.items b ≡ l.first + before b (block_counts l.store);
  count : l.count ≡ l.first + before l.number (block_counts l.store);
  few : l.count ≤ l.first + 256 * l.number;
  room : l.blocks ≤ vec_capacity l.starts;
}
