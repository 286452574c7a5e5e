-- What a heap of generations keeps to.
use Rattle.std.specs.Prelude.{◌≡◌, ℕ, ◌<◌, ◌≤◌, Some}
use Rattle.jm_values.specs.Shape.{Among}
use Rattle.jm_values.specs.Rename.{stack_shape}
use Rattle.jm_heap.specs.Cells.{resident_cells}
use Rattle.jm_blocks.specs.Objects.{Object}
use Rattle.jm_blocks.specs.Stores.{objects_in, HasObject}
use Rattle.jm_nursery.specs.Nurseries.{AreNurseries}
use Rattle.jm_copy.specs.Condemned.{objects_at}
use Rattle.jm_gen_heap.specs.Generations.{Generations, IsYoung, Lies, lying, old_lane, all_cells}
use Rattle.jm_gen_heap.specs.Residents.{content_of}

-- serials tell objects apart and are below the next one, and each reference is the place of an object
pub record AreTold (g : Generations) : Type 0 where
  pub apart : (p q : ℕ) (a b : Object) → lying g p ≡ Some a → lying g q ≡ Some b → a.serial ≡ b.serial → p ≡ q
  pub below : (p : ℕ) (a : Object) → lying g p ≡ Some a → a.serial < g.next
  pub closed : (p q : ℕ) (a : Object) → lying g p ≡ Some a → Among q (stack_shape.refs a.values) → Lies g q

-- an object has survived one collection at most, or is old
pub record AreAged (g : Generations) : Type 0 where
  pub young : (p : ℕ) (a : Object) → objects_at g.nurseries p ≡ Some a → a.age ≤ 1
  pub old : (p : ℕ) (a : Object) → objects_in g.tenured p ≡ Some a → a.age ≡ 2

-- each old object that names a young one is remembered, and old objects alone
pub record AreRemembered (g : Generations) : Type 0 where
  pub covers : (p q : ℕ) (a : Object) → objects_in g.tenured p ≡ Some a → Among q (stack_shape.refs a.values) → IsYoung q → Among p g.remembered
  pub old : (p : ℕ) → Among p g.remembered → HasObject g.tenured p

-- sixteen nurseries and the old objects, whose cells are those of all residents and within the limit
pub record AreGenerations (g : Generations) : Type 0 where
  pub nurseries : AreNurseries g.nurseries
  pub tenured : g.tenured.lane ≡ old_lane
  pub told : AreTold g
  pub aged : AreAged g
  pub remembered : AreRemembered g
  pub counted : resident_cells (content_of g) ≡ all_cells g
  pub within : all_cells g ≤ g.limit
