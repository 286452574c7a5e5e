-- The cells of objects and blocks: a block that several objects share has 512, and none of them has
-- more than 256.
use Rattle.std.specs.Prelude.{ℕ, ◌+◌, ◌<◌, ◌≤◌, ◌&&◌, List, [], ◌∷◌, map, length, sum, Bool, true, nat_le}
use Rattle.std.specs.List.{All}
use Rattle.jm_heap.specs.Cells.{class_size}
use Rattle.jm_blocks.specs.Objects.{Object}

abbrev pub object_cells : Object → ℕ
object_cells o = class_size o.class (length o.values)

abbrev pub sizes_of : List Object → List ℕ
sizes_of os = map object_cells os

abbrev pub block_cells : List Object → ℕ
block_cells os = sum (sizes_of os)

-- whether an object of so many cells fits into a block with objects of these sizes: into an empty
-- one always; beside others, if neither it nor the first of them is large (a large one is the only
-- one of its block) and all together have at most 512
abbrev pub has_room : List ℕ → ℕ → Bool
has_room [] n = true
has_room (s ∷ ss) n = nat_le n 256 && (nat_le s 256 && nat_le (sum (s ∷ ss) + n) 512)

-- one object at most, or small ones that have at most 512 cells together
abbrev pub HoldsItsCells : List ℕ → Type 0
HoldsItsCells ss = 1 < length ss → (sum ss ≤ 512) × All (λ s. s ≤ 256) ss
