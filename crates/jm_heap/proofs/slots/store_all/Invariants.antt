use Rattle.std.proofs.Common.{◌≡◌, ◌+◌, ◌<◌, ◌≤◌, ◌^◌, ℕ, List, ◌++◌, length}
use Rattle.std.specs.Prelude.{vec_len, vec_capacity}
use Rattle.std.specs.Vec.Iter.{into_iter_items, into_iter_len}
use Rattle.jm_heap.specs.Slots.{Slot}
use Rattle.jm_heap.specs.Stored.{AreTaken, StoredAll}
use Rattle.jm_heap.proofs.slots.store_all.Given as goal

abbrev pub invariant-loop-slot : goal.invariant-loop-slot
invariant-loop-slot l = record {
  len : into_iter_len l.slot-iterator ≡ length (into_iter_items l.slot-iterator);
  taken : AreTaken (into_iter_items l.slot-iterator);
  so_far : (after : List Slot) (ps : List ℕ) → StoredAll l.slots.items after ps (into_iter_items l.slot-iterator) → StoredAll l.initial.slots.items after (l.places.items ++ ps) l.fn.new.items;
  room : vec_len l.slots + into_iter_len l.slot-iterator ≤ vec_capacity l.slots;
  places : vec_len l.places + into_iter_len l.slot-iterator ≤ vec_capacity l.places;
  few : vec_len l.slots + into_iter_len l.slot-iterator < 2 ^ 63;
}
