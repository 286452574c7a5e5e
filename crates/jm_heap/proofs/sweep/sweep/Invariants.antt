use Rattle.std.proofs.Common.{◌≡◌, ℕ, ◌≤◌, length, true, false, None}
use Rattle.jm_heap.specs.Slots.{object_in, is_marked, slots_cells}
use Rattle.jm_heap.proofs.sweep.sweep.Given as goal

abbrev pub invariant-loop-index : goal.invariant-loop-index
invariant-loop-index l = record {
  kept : (p : ℕ) → is_marked l.marks.items p ≡ true → object_in l.slots.items p ≡ object_in l.initial.slots.items p;
  gone : (p : ℕ) → p ≤ l.index → is_marked l.marks.items p ≡ false → object_in l.slots.items p ≡ None;
  used : l.used ≡ slots_cells l.slots.items;
  fewer : l.used ≤ l.initial.used;
  many : length l.slots.items ≡ length l.initial.slots.items;
}
