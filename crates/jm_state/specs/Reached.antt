-- What a world reaches, as a state finds it.
use Rattle.std.specs.Prelude.{◌≡◌, ◌↔◌, ℕ, List, Option, Some, None}
use Rattle.std.specs.List.Sorted.{IsStrictlyIncreasing}
use Rattle.jm_values.specs.Shape.{Among}
use Rattle.jm_values.specs.Objects.{ObjectOf}
use Rattle.jm_values.specs.Content.{Content, serial_at, object_at}
use Rattle.jm_world.specs.World.{World, reach}
use Rattle.jm_heap.specs.declared.heap.Kind.{Kind}
use Rattle.jm_heap.specs.declared.heap.Kind.TheVariants.{Minor, Full}

-- the numbers of what a world reaches, rising, each once
pub record AreReachable (w : World) (serials : List ℕ) : Type 0 where
  pub rising : IsStrictlyIncreasing serials
  pub same : (k : ℕ) → Among k serials ↔ Among k (reach w)

-- a full collection leaves only what the world reaches
abbrev pub LeavesReachable : {T : Type 0} → Kind → Content T → World → Type 0
LeavesReachable Minor c w = Unit {0}
LeavesReachable Full c w = (k : ℕ) (o : ObjectOf _) → object_at c k ≡ Some o → Among k (reach w)

-- where the object of a number that the world reaches lies; none of a number that it does not
abbrev pub FindsReachable : {T : Type 0} → Content T → World → ℕ → Option ℕ → Type 0
FindsReachable c w k None = Among k (reach w) → ⊥
FindsReachable c w k (Some p) = Among k (reach w) × (serial_at c p ≡ Some k)
