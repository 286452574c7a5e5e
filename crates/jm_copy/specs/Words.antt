-- Forwarding words: one for each condemned object, by its number.
use Rattle.std.specs.Prelude.{ℕ, zero, suc, List, Option, Some, None, slice_index}
use Rattle.jm_blocks.specs.Objects.{Object}
use Rattle.jm_blocks.specs.Stores.{Blocks}
use Rattle.jm_copy.specs.Condemned.{objects_at}
use Rattle.jm_copy.specs.Numbers.{number_of}

-- a word is 0, or the place to which its object was copied
abbrev pub place_of : ℕ → Option ℕ
place_of zero = None
place_of (suc n) = Some (suc n)

abbrev pub moved_by : Option Object → ℕ → Option ℕ
moved_by None word = None
moved_by (Some o) word = place_of word

-- where the object at a place was moved to
unfoldable pub moved : List Blocks → List ℕ → ℕ → Option ℕ
moved stores words p = moved_by (objects_at stores p) (slice_index words (number_of stores p))
