use Rattle.std.proofs.Common.{◌≡◌, ℕ, ◌<◌, length, get_or, true, false}
use Rattle.jm_barrier.specs.Marks.{is_marked}
use Rattle.jm_barrier.proofs.remembered.unmark_all.Given as goal

-- the places so far are not marked, and none is that was not
abbrev pub invariant-loop-place : goal.invariant-loop-place
invariant-loop-place l = record {
  off : (k : ℕ) → k < l.place-index → is_marked l.lanes.items (get_or l.places k 0) ≡ false;
  fewer : (q : ℕ) → is_marked l.lanes.items q ≡ true → is_marked l.initial.lanes.items q ≡ true;
  many : length l.lanes.items ≡ length l.initial.lanes.items;
}
