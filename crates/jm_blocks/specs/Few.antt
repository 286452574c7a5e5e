-- How many blocks a lane has for its cells where every n-th of them is filled.
use Rattle.std.specs.Prelude.{◌≡◌, ℕ, ◌+◌, ◌*◌, ◌≤◌, List, [], ◌++◌, length, replicate, if◌then◌else◌}
use Rattle.jm_blocks.specs.Objects.{Object}
use Rattle.jm_blocks.specs.Cells.{object_cells, block_cells}
use Rattle.jm_blocks.specs.Stores.{last_has_room, last_of, objects_of, store_cells, with_object}

-- the blocks with an object more: in the last one, or in the last of n new ones where it has no room there
abbrev pub with_strided : ℕ → List (List Object) → Object → List (List Object)
with_strided n bs o = with_object (if last_has_room bs (object_cells o) then bs else (bs ++ replicate n [])) o

-- n blocks for each that was filled, and more than 256 cells for two that were filled one after the other
pub record AreFew (n : ℕ) (bs : List (List Object)) : Type 0 where
  pub filled : ℕ
  pub many : length bs ≡ n * filled
  pub held : 257 * filled + block_cells (objects_of (last_of bs)) ≤ 2 * store_cells bs + 257
