-- What a minor collection leaves.
use Rattle.std.specs.Prelude.{◌≡◌, ℕ, List, Some}
use Rattle.jm_values.specs.Shape.{Among}
use Rattle.jm_values.specs.Rename.{stack_shape}
use Rattle.jm_blocks.specs.Objects.{Object}
use Rattle.jm_blocks.specs.Stores.{HasObject, objects_in}
use Rattle.jm_gen_heap.specs.Generations.{Generations, IsYoung}
use Rattle.jm_gen_heap.specs.Steps.{with_tenured}
use Rattle.jm_gen_heap.specs.Collections.{LeavesOldAndReached}

-- exactly the old objects and those young ones that the roots reach, or the fields of remembered ones, which
-- are old objects, among them all that name young ones
pub record LeavesMinor (g h : Generations) (roots moved : List ℕ) : Type 0 where
  pub remembered : List ℕ
  pub covers : (p q : ℕ) (a : Object) → objects_in g.tenured p ≡ Some a → Among q (stack_shape.refs a.values) → IsYoung q → Among p remembered
  pub old : (p : ℕ) → Among p remembered → HasObject g.tenured p
  pub leaves : LeavesOldAndReached (with_tenured g g.tenured remembered) h roots moved
