-- The nurseries of the workers.
use Rattle.std.specs.Prelude.{◌≡◌, ℕ, ◌+◌, ◌-◌, ◌/◌, ◌≤◌, ◌&&◌, List, Option, Some, None, nat_le, if◌then◌else◌, slice_get, slice_set, length, sum_by}
use Rattle.jm_values.specs.declared.value.Value.{Value}
use Rattle.jm_heap.specs.Packing.{Fits, kind_of}
use Rattle.jm_blocks.specs.Objects.{Object}
use Rattle.jm_blocks.specs.Cells.{object_cells}
use Rattle.jm_blocks.specs.Places.{lane_of}
use Rattle.jm_blocks.specs.Stores.{Blocks, objects_in, HasValue, IsSet, IsPopped, store_cells, store_with, next_place, Bumped}

-- the heap's limit in cells, and the blocks of each nursery, by its number
pub record Young : Type 0 where
  pub limit : ℕ
  pub lanes : List Blocks

-- a quarter of the limit, rounded down
abbrev pub quota : Young → ℕ
quota y = y.limit / 4

abbrev pub lane_cells : Blocks → ℕ
lane_cells s = store_cells s.lists

-- the cells of all young objects
abbrev pub young_cells : List Blocks → ℕ
young_cells lanes = sum_by lane_cells lanes

-- sixteen nurseries, the one of number n in lane n + 1
pub record AreNurseries (lanes : List Blocks) : Type 0 where
  pub many : length lanes ≡ 16
  pub numbered : (n : ℕ) (s : Blocks) → slice_get lanes n ≡ Some s → s.lane ≡ n + 1

-- the nursery in whose lane a place is, if it is in one
abbrev pub nursery_at : ℕ → Option ℕ
nursery_at p = if nat_le 1 (lane_of p) && nat_le (lane_of p) 16 then Some (lane_of p - 1) else None

-- an object more in a nursery, at a place of its lane that lies above all others of it
pub record IsMade (old new : Young) (n p : ℕ) (o : Object) : Type 0 where
  pub store : Blocks
  pub store_is : slice_get old.lanes n ≡ Some store
  pub place : p ≡ next_place store (object_cells o)
  pub lane : nursery_at p ≡ Some n
  pub bumped : Bumped store (store_with store o) p o
  pub lanes : new ≡ record { limit = old.limit; lanes = slice_set old.lanes n (store_with store o) }
  pub cells : young_cells new.lanes ≡ young_cells old.lanes + object_cells o

-- the last object of a nursery, which lay at a place, is given up
pub record IsUnmade (old new : Young) (n p : ℕ) (o : Object) : Type 0 where
  pub store : Blocks
  pub after : Blocks
  pub store_is : slice_get old.lanes n ≡ Some store
  pub popped : IsPopped store after p o
  pub lane : after.lane ≡ store.lane
  pub lanes : new ≡ record { limit = old.limit; lanes = slice_set old.lanes n after }
  pub cells : young_cells old.lanes ≡ young_cells new.lanes + object_cells o

-- the place lies in the lane of a nursery, and its object has a value of this number
abbrev pub HasYoungValue : List Blocks → ℕ → ℕ → Type 0
HasYoungValue lanes p i = (s : Blocks) × (slice_get lanes (lane_of p - 1) ≡ Some s) × HasValue s p i

-- the object at a place in the lane of a nursery can hold a value, by its type
abbrev pub CanHoldYoung : List Blocks → ℕ → Value → Type 0
CanHoldYoung lanes p v = (s : Blocks) (o : Object) → slice_get lanes (lane_of p - 1) ≡ Some s → objects_in s p ≡ Some o → Fits (kind_of o.class) v

-- one value of an object in the lane of a nursery is another
pub record IsWritten (old new : Young) (p i : ℕ) (v : Value) : Type 0 where
  pub store : Blocks
  pub after : Blocks
  pub store_is : slice_get old.lanes (lane_of p - 1) ≡ Some store
  pub set : IsSet store after p i v
  pub lane : after.lane ≡ store.lane
  pub lanes : new ≡ record { limit = old.limit; lanes = slice_set old.lanes (lane_of p - 1) after }
  pub cells : young_cells new.lanes ≡ young_cells old.lanes

-- what holds of the nurseries' fields
pub record IsYoung (limit cells : ℕ) (lanes : List Blocks) : Type 0 where
  pub nurseries : AreNurseries lanes
  pub counted : cells ≡ young_cells lanes
  pub within : cells ≤ limit
