-- A heap of two generations by its stores: the nurseries, and the store of the old objects.
use Rattle.std.specs.Prelude.{◌≡◌, ℕ, ◌+◌, ◌<◌, List, [], ◌∷◌, ◌++◌, Option, Some}
use Rattle.jm_blocks.specs.Objects.{Object}
use Rattle.jm_blocks.specs.Places.{lane_of}
use Rattle.jm_blocks.specs.Stores.{Blocks, store_cells}
use Rattle.jm_nursery.specs.Nurseries.{young_cells}
use Rattle.jm_copy.specs.Condemned.{objects_at}

-- the limit in cells, the serial of the next object, the blocks of each nursery by its number, those of
-- the old objects, and the places of the old objects that are remembered: those that may name a young one
pub record Generations : Type 0 where
  pub limit : ℕ
  pub next : ℕ
  pub nurseries : List Blocks
  pub tenured : Blocks
  pub remembered : List ℕ

-- all stores, in the order of their lanes
abbrev pub stores_of : Generations → List Blocks
stores_of g = g.nurseries ++ g.tenured ∷ []

-- the object that lies at a place
abbrev pub lying : Generations → ℕ → Option Object
lying g p = objects_at (stores_of g) p

abbrev pub Lies : Generations → ℕ → Type 0
Lies g p = (o : Object) × (lying g p ≡ Some o)

-- the lane of the old objects, the one after those of the nurseries
abbrev pub old_lane : ℕ
old_lane = 17

-- a place is in the lane of a nursery
pub record IsYoung (p : ℕ) : Type 0 where
  pub some : 0 < lane_of p
  pub few : lane_of p < old_lane

-- the cells of all objects
abbrev pub all_cells : Generations → ℕ
all_cells g = young_cells g.nurseries + store_cells g.tenured.lists
