-- The list of what a world reaches beside the least set.
use Rattle.std.specs.Prelude.{◌<◌, ◌↔◌, ℕ, length, slice_get}
use Rattle.jm_values.specs.Shape.{Among}
use Rattle.jm_values.specs.Reach.{AllDistinct, Reach}
use Rattle.jm_world.specs.World.{World, roots, reach}

-- each number that is reached has an object
abbrev pub IsBounded : World → Type 0
IsBounded w = (k : ℕ) → Reach (slice_get w.heap) (roots w) k → k < length w.heap

-- the list has exactly the numbers of the least set, each once
pub record IsLeastSet (w : World) : Type 0 where
  pub same : (k : ℕ) → Among k (reach w) ↔ Reach (slice_get w.heap) (roots w) k
  pub once : AllDistinct (reach w)

abbrev pub ReachIsLeast : Type 0
ReachIsLeast = (w : World) → IsBounded w → IsLeastSet w
