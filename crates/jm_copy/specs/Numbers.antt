-- The numbers of condemned objects: in the order of lanes, then of blocks, then of objects in a block.
use Rattle.std.specs.Prelude.{◌≡◌, ℕ, zero, suc, ◌+◌, ◌-◌, ◌<◌, List, [], ◌∷◌, map, length, Option, Some, None, slice_get, slice_index}
use Rattle.jm_blocks.specs.Objects.{Object}
use Rattle.jm_blocks.specs.Places.{lane_of, block_of, index_of}
use Rattle.jm_blocks.specs.Stores.{Blocks}

-- the sum of the first numbers
abbrev pub before : ℕ → List ℕ → ℕ
before zero ns = 0
before (suc k) [] = 0
before (suc k) (n ∷ ns) = n + before k ns

-- how many objects the blocks of a lane have
abbrev pub list_length : List Object → ℕ
list_length os = length os

abbrev pub block_counts : Blocks → List ℕ
block_counts s = map list_length s.lists

abbrev pub lane_count : Blocks → ℕ
lane_count s = before (length s.lists) (block_counts s)

abbrev pub lane_counts : List Blocks → List ℕ
lane_counts stores = map lane_count stores

abbrev pub object_count : List Blocks → ℕ
object_count stores = before (length stores) (lane_counts stores)

abbrev pub number_in : Option Blocks → ℕ → ℕ
number_in None p = 0
number_in (Some s) p = before (block_of p) (block_counts s) + index_of p

-- the number of the object at a place
unfoldable pub number_of : List Blocks → ℕ → ℕ
number_of stores p = before (lane_of p - 1) (lane_counts stores) + number_in (slice_get stores (lane_of p - 1)) p

-- for each block of a lane, how many objects come before it, where so many come before the lane
pub record AreStarts (first : ℕ) (s : Blocks) (starts : List ℕ) : Type 0 where
  pub many : length starts ≡ length s.lists
  pub each : (b : ℕ) → b < length starts → slice_index starts b ≡ first + before b (block_counts s)

-- the same for each lane
pub record AreNumbers (stores : List Blocks) (numbers : List (List ℕ)) : Type 0 where
  pub many : length numbers ≡ length stores
  pub each : (k : ℕ) (s : Blocks) (starts : List ℕ) → slice_get stores k ≡ Some s → slice_get numbers k ≡ Some starts → AreStarts (before k (lane_counts stores)) s starts
