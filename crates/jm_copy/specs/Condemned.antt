-- The condemned objects: those of stores whose lanes are 1, 2, ..
use Rattle.std.specs.Prelude.{◌≡◌, ℕ, ◌+◌, ◌-◌, ◌≤◌, List, Option, Some, None, length, slice_get}
use Rattle.jm_blocks.specs.Objects.{Object}
use Rattle.jm_blocks.specs.Places.{lane_of}
use Rattle.jm_blocks.specs.Stores.{Blocks, objects_in}

-- each store has the lane of its number, from 1 on
pub record AreLanes (stores : List Blocks) : Type 0 where
  pub many : length stores ≤ 63
  pub numbered : (n : ℕ) (s : Blocks) → slice_get stores n ≡ Some s → s.lane ≡ n + 1

abbrev pub object_of_store : Option Blocks → ℕ → Option Object
object_of_store None p = None
object_of_store (Some s) p = objects_in s p

-- the object at a place
unfoldable pub objects_at : List Blocks → ℕ → Option Object
objects_at stores p = object_of_store (slice_get stores (lane_of p - 1)) p

abbrev pub HasCondemned : List Blocks → ℕ → Type 0
HasCondemned stores p = (o : Object) × (objects_at stores p ≡ Some o)
