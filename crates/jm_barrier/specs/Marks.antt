-- Marks on places: a list for each lane, with a mark for each object by its number there.
use Rattle.std.specs.Prelude.{◌≡◌, ◌≢◌, ℕ, ◌+◌, ◌*◌, ◌<◌, List, [], Option, Some, None, Bool, true, false, slice_get, slice_index_or, length}
use Rattle.jm_values.specs.Reach.{AllDistinct, is_among}
use Rattle.jm_blocks.specs.Places.{lane_of, block_of, index_of}

-- the object's number in its lane
abbrev pub number_of : ℕ → ℕ → ℕ
number_of block index = block * 256 + index

abbrev pub marks_of : Option (List Bool) → List Bool
marks_of None = []
marks_of (Some marks) = marks

abbrev pub lane_marks : List (List Bool) → ℕ → List Bool
lane_marks lanes lane = marks_of (slice_get lanes lane)

-- whether a place is marked
abbrev pub is_marked : List (List Bool) → ℕ → Bool
is_marked lanes p = slice_index_or (lane_marks lanes (lane_of p)) (number_of (block_of p) (index_of p)) false

abbrev pub HasRoom : List (List Bool) → ℕ → Type 0
HasRoom lanes p = number_of (block_of p) (index_of p) < length (lane_marks lanes (lane_of p))

abbrev pub SameMarks : List (List Bool) → List (List Bool) → Type 0
SameMarks old new = (p : ℕ) → is_marked new p ≡ is_marked old p

-- the mark of one place is on or off, and all others are as they were
pub record IsMarked (old new : List (List Bool)) (p : ℕ) (on : Bool) : Type 0 where
  pub here : is_marked new p ≡ on
  pub others : (q : ℕ) → q ≢ p → is_marked new q ≡ is_marked old q
  pub many : length new ≡ length old

-- the marks of these places are off, and no mark is on that was not
pub record AreUnmarked (old new : List (List Bool)) (places : List ℕ) : Type 0 where
  pub off : (k : ℕ) → k < length places → is_marked new (slice_index_or places k 0) ≡ false
  pub fewer : (q : ℕ) → is_marked new q ≡ true → is_marked old q ≡ true
  pub many : length new ≡ length old

-- no mark is on
pub record AreBare (lanes : List (List Bool)) : Type 0 where
  pub off : (p : ℕ) → is_marked lanes p ≡ false
  pub many : length lanes ≡ 64

-- what holds of a set's fields
pub record IsRemembered (lanes : List (List Bool)) (places : List ℕ) : Type 0 where
  pub many : length lanes ≡ 64
  pub marked : (p : ℕ) → is_marked lanes p ≡ is_among p places
  pub distinct : AllDistinct places
