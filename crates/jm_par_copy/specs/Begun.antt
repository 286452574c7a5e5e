-- Where a copier begins in the old store: of n copiers the one of number x.
use Rattle.std.specs.Prelude.{◌≡◌, ◌⊎◌, ℕ, ◌+◌, ◌<◌, ◌≤◌, ◌%◌, List, length, Option, Some, None, Bool, false, not, nat_eq, slice_get, if◌then◌else◌}
use Rattle.jm_blocks.specs.Objects.{Object}
use Rattle.jm_blocks.specs.Cells.{has_room, sizes_of}
use Rattle.jm_blocks.specs.Places.{block_of}
use Rattle.jm_blocks.specs.Stores.{Blocks, objects_in}

-- of so many blocks the copier's own among the last n; where it has none yet its first one, which is not there
pub record IsLastOwn (x n count b : ℕ) : Type 0 where
  pub own : b % n ≡ x
  pub last : count ≤ b + n
  pub among : (b < count) ⊎ (b ≡ x)

-- a block that has no room for the smallest object, which has two cells
abbrev pub is_full : Option (List Object) → Bool
is_full None = false
is_full (Some os) = not (has_room (sizes_of os) 2)

-- it begins there, where that block is not full, and else in its next one. All blocks of its own with objects are at or
-- below it. It is not always the last of these: where others went on further, the copier leaves room in an older block of
-- its own, in at most one for each stride. Full collections lay all anew
pub record IsBegin (x n : ℕ) (bs : List (List Object)) (first : ℕ) : Type 0 where
  pub last : ℕ
  pub is_last : IsLastOwn x n (length bs) last
  pub begins : first ≡ (if is_full (slice_get bs last) then last + n else last)

-- a store ends there, and has the objects that the old store has in this block, and no others
pub record IsBegun (x n : ℕ) (before s : Blocks) : Type 0 where
  pub first : ℕ
  pub begins : IsBegin x n before.lists first
  pub many : length s.lists ≡ first + 1
  pub same : (p : ℕ) → objects_in s p ≡ (if nat_eq (block_of p) first then objects_in before p else None)
