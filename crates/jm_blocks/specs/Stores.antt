-- The objects of a store by their places.
use Rattle.std.specs.Prelude.{◌≡◌, ◌≢◌, ℕ, ◌+◌, ◌-◌, ◌%◌, ◌^◌, ◌<◌, ◌≤◌, [], ◌∷◌, ◌++◌, if◌then◌else◌}
use Rattle.std.specs.Prelude.{List, Option, Some, None, Bool, false, nat_eq, slice_get, length, replicate, sum_by}
use Rattle.jm_values.specs.declared.value.Value.{Value}
use Rattle.jm_blocks.specs.Objects.{Object, with_value}
use Rattle.jm_blocks.specs.Cells.{object_cells, sizes_of, block_cells, has_room}
use Rattle.jm_blocks.specs.Places.{place_at, lane_of, block_of, index_of}

-- the blocks of a lane, each the list of its objects, under the numbers from 0 on
pub record Blocks : Type 0 where
  pub lane : ℕ
  pub lists : List (List Object)

abbrev pub object_of_list : Option (List Object) → ℕ → Option Object
object_of_list None k = None
object_of_list (Some os) k = slice_get os k

-- the object at a place, if there is one
unfoldable pub objects_in : Blocks → ℕ → Option Object
objects_in s p = if nat_eq (lane_of p) s.lane then object_of_list (slice_get s.lists (block_of p)) (index_of p) else None

-- an object, or a value of this number of one, is there
abbrev pub HasObject : Blocks → ℕ → Type 0
HasObject s p = (o : Object) × (objects_in s p ≡ Some o)

abbrev pub HasValue : Blocks → ℕ → ℕ → Type 0
HasValue s p i = (o : Object) × (objects_in s p ≡ Some o) × (i < length o.values)

-- the object at a place is that of a number in this list
abbrev pub LiesIn : Blocks → ℕ → List Object → ℕ → Type 0
LiesIn s p os i = (o : Object) × (objects_in s p ≡ Some o) × (slice_get os i ≡ Some o)

-- one place has this object afterwards, and all others have what they had
pub record Changed (old new : Blocks) (p : ℕ) (o : Object) : Type 0 where
  pub here : objects_in new p ≡ Some o
  pub others : (q : ℕ) → q ≢ p → objects_in new q ≡ objects_in old q

-- one value of the object there is another
abbrev pub IsSet : Blocks → Blocks → ℕ → ℕ → Value → Type 0
IsSet old new p i v = (o : Object) → objects_in old p ≡ Some o → Changed old new p (with_value o i v)

-- a place above all others has this object afterwards
pub record Bumped (old new : Blocks) (p : ℕ) (o : Object) : Type 0 where
  pub changed : Changed old new p o
  pub above : (q : ℕ) → HasObject old q → q < p

-- there is no object, or no object above the one at a place
abbrev pub IsEmpty : Blocks → Type 0
IsEmpty s = (q : ℕ) → objects_in s q ≡ None

abbrev pub IsLast : Blocks → ℕ → Type 0
IsLast s p = (q : ℕ) → HasObject s q → q ≤ p

-- the place of the first object, and of the first one above a place
pub record IsFirst (s : Blocks) (p : ℕ) : Type 0 where
  pub there : HasObject s p
  pub least : (q : ℕ) → HasObject s q → p ≤ q

pub record IsAfter (s : Blocks) (p next : ℕ) : Type 0 where
  pub above : p < next
  pub there : HasObject s next
  pub least : (q : ℕ) → HasObject s q → p < q → next ≤ q

-- the object at a place is the last one of its block
abbrev pub EndsBlock : Blocks → ℕ → Type 0
EndsBlock s p = (os : List Object) → slice_get s.lists (block_of p) ≡ Some os → length os ≤ index_of p + 1

-- the blocks with an object more: in the last one, or in one of its own where it has no room there
abbrev pub with_object : List (List Object) → Object → List (List Object)
with_object [] o = (o ∷ []) ∷ []
with_object (b ∷ []) o = if has_room (sizes_of b) (object_cells o) then (b ++ o ∷ []) ∷ [] else b ∷ (o ∷ []) ∷ []
with_object (b ∷ c ∷ bs) o = b ∷ with_object (c ∷ bs) o

abbrev pub store_with : Blocks → Object → Blocks
store_with s o = record { lane = s.lane; lists = with_object s.lists o }

abbrev pub objects_of : Option (List Object) → List Object
objects_of None = []
objects_of (Some os) = os

abbrev pub list_has_room : Option (List Object) → ℕ → Bool
list_has_room None n = false
list_has_room (Some os) n = has_room (sizes_of os) n

abbrev pub last_of : List (List Object) → Option (List Object)
last_of bs = slice_get bs (length bs - 1)

-- whether the last block has room for so many cells
abbrev pub last_has_room : List (List Object) → ℕ → Bool
last_has_room bs n = list_has_room (last_of bs) n

-- where an object more of so many cells lies
unfoldable pub next_place : Blocks → ℕ → ℕ
next_place s n =
    if last_has_room s.lists n
    then place_at s.lane (length s.lists - 1) (length (objects_of (last_of s.lists)))
    else place_at s.lane (length s.lists) 0

-- an object stands at the next place for its cells, and the blocks are as before with it more
pub record IsPutNext (old new : Blocks) (p : ℕ) (o : Object) : Type 0 where
  pub place : p ≡ next_place old (object_cells o)
  pub blocks : new ≡ store_with old o

-- the cells of all objects
abbrev pub store_cells : List (List Object) → ℕ
store_cells bs = sum_by block_cells bs

-- each block has at most 256 objects, so that a place can tell them
abbrev pub AreShort : List (List Object) → Type 0
AreShort bs = (b : ℕ) (os : List Object) → slice_get bs b ≡ Some os → length os ≤ 256

-- blocks of which so many first ones are empty, and then come these
abbrev pub lists_from : ℕ → List (List Object) → List (List Object)
lists_from first kept = replicate first [] ++ kept

-- where some are not kept the last one is, and there is room for all
pub record AreKept (first : ℕ) (kept : List (List Object)) (capacity : ℕ) : Type 0 where
  pub last : 0 < first → 0 < length kept
  pub room : first + length kept ≤ capacity

-- what a store keeps of its blocks beside them: their cells, modulo 2^64
pub record AreCounted (bs : List (List Object)) (cells : ℕ) : Type 0 where
  pub count : cells ≡ store_cells bs % 2 ^ 64
  pub short : AreShort bs

-- the last object, which lay at a place, is given up
pub record IsPopped (old new : Blocks) (p : ℕ) (o : Object) : Type 0 where
  pub bumped : Bumped new old p o
  pub cells : store_cells old.lists ≡ store_cells new.lists + object_cells o

-- the blocks from a number on have no object
abbrev pub NoneFrom : List (List Object) → ℕ → Type 0
NoneFrom bs from = (i : ℕ) (os : List Object) → from ≤ i → slice_get bs i ≡ Some os → length os ≡ 0

-- the first block from a number on that has an object
pub record IsFirstBlock (bs : List (List Object)) (from b : ℕ) : Type 0 where
  pub from_on : from ≤ b
  pub block : List Object
  pub block_is : slice_get bs b ≡ Some block
  pub some : 0 < length block
  pub before : (i : ℕ) (os : List Object) → from ≤ i → i < b → slice_get bs i ≡ Some os → length os ≡ 0

-- the last block that has an object
pub record IsLastBlock (bs : List (List Object)) (b : ℕ) : Type 0 where
  pub block : List Object
  pub block_is : slice_get bs b ≡ Some block
  pub some : 0 < length block
  pub after : NoneFrom bs (b + 1)
