-- The blocks of one store are put into another of the same lane.
use Rattle.std.specs.Prelude.{◌≡◌, ◌≢◌, ℕ, [], Some, length, slice_get}
use Rattle.jm_blocks.specs.Objects.{Object}
use Rattle.jm_blocks.specs.Places.{block_of}
use Rattle.jm_blocks.specs.Stores.{Blocks, HasObject, objects_in}
use Rattle.jm_par_copy.specs.Working.{both}

-- no place has an object in both
abbrev pub AreBeside : Blocks → Blocks → Type 0
AreBeside from to = (n : ℕ) → HasObject from n → HasObject to n → ⊥

-- where the second has an object in a block in which the first has one, the first has the same there
abbrev pub GoesOver : Blocks → Blocks → Type 0
GoesOver from to = (n : ℕ) (z : Object) → objects_in to n ≡ Some z → (m : ℕ) → HasObject from m → block_of m ≡ block_of n → objects_in from n ≡ Some z

-- together they have what they had, and the second lost nothing
pub record IsMoved (from to from_now to_now : Blocks) : Type 0 where
  pub from_lane : from_now.lane ≡ from.lane
  pub to_lane : to_now.lane ≡ to.lane
  pub many : length from_now.lists ≡ length from.lists
  pub all : (n : ℕ) → both (objects_in to_now) (objects_in from_now) n ≡ both (objects_in to) (objects_in from) n
  pub over : GoesOver from_now to_now
  pub kept : (n : ℕ) (o : Object) → objects_in to n ≡ Some o → objects_in to_now n ≡ Some o

-- of one store the block of a number is empty, and the others are as they were
pub record IsLeft (from from_now : Blocks) (number : ℕ) : Type 0 where
  pub here : slice_get from_now.lists number ≡ Some []
  pub others : (k : ℕ) → k ≢ number → slice_get from_now.lists k ≡ slice_get from.lists k
