-- What holds of a plain heap's fields.
use Rattle.std.specs.Prelude.{◌≡◌, ℕ, ◌<◌, ◌≤◌, ◌^◌, List, length}
use Rattle.jm_heap.specs.Slots.{AreSound, slots_cells, Slot}

pub record IsPlainHeap (limit next used : ℕ) (slots : List Slot) : Type 0 where
  pub sound : AreSound next slots
  pub cells : used ≡ slots_cells slots
  pub within : used ≤ limit
  pub small : limit < 2 ^ 32
  pub few : length slots < 2 ^ 63
