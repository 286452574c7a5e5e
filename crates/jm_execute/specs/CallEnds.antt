-- How a call of a writer ends, and which ends a writer in memory has.
use Rattle.std.specs.Prelude.{◌≡◌, ℕ, ◌+◌, ◌<◌, ◌≤◌, List, Vec, length}
use Rattle.std.specs.Vec.{vec_len, vec_capacity}

pub data CallEnd : Type 0 where
  -- it took these bytes; a call to flush takes none
  took : List ℕ → CallEnd
  -- it was given these bytes, and answered an error or took none of them
  refused : List ℕ → CallEnd
  -- it was to flush, and answered an error
  flush_refused : CallEnd

-- A list of bytes takes all of them behind its own, and never loses room; it refuses bytes only where they have no room and memory is refused,
-- and no flush.
abbrev pub vec_ends : {A : Type 0} → Vec ℕ A → CallEnd → Vec ℕ A → Type 0
vec_ends old (took bytes) new = (vec_len new ≡ vec_len old + length bytes) × (vec_capacity old ≤ vec_capacity new)
vec_ends old (refused bytes) new = vec_capacity old < vec_len old + length bytes
vec_ends old flush_refused new = ⊥
