-- What holds of making many objects at once.
use Rattle.std.specs.Prelude.{◌≡◌, ◌<◌, ℕ, List, [], ◌∷◌, map, Some, length}
use Rattle.jm_world.specs.Objects.{Object}
use Rattle.jm_world.specs.World.{World, object_at}
use Rattle.jm_world.specs.Next.{Next, make, make_all, numbers_from, with_objects}

-- making one object is its case
abbrev pub OneIsAList : Type 0
OneIsAList = (w : World) (o : Object) (go : World → List ℕ → Next) → make_all w (o ∷ []) go ≡ make w o (λ made k. go made (k ∷ []))

-- the objects have the numbers that follow, in their order, and each one before keeps its number
pub record AreNumbered (w : World) (os : List Object) : Type 0 where
  pub new : map (object_at (with_objects w os)) (numbers_from (length w.heap) os) ≡ map Some os
  pub old : (k : ℕ) → k < length w.heap → object_at (with_objects w os) k ≡ object_at w k

abbrev pub ObjectsAreNumbered : Type 0
ObjectsAreNumbered = (w : World) (os : List Object) → AreNumbered w os
