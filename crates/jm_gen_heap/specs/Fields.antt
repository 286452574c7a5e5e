-- What is put into the values of an object.
use Rattle.std.specs.Prelude.{◌≡◌, ◌≢◌, ℕ, List, Some}
use Rattle.jm_values.specs.Rename.{stack_shape}
use Rattle.jm_blocks.specs.Objects.{Object}
use Rattle.jm_blocks.specs.Stores.{Blocks, objects_in}
use Rattle.jm_gen_heap.specs.Collections.{with_values}

-- the references in the values of the object at a place are the first of these, in order
pub record IsPutInto (old new : Blocks) (p : ℕ) (places : List ℕ) : Type 0 where
  pub here : (o : Object) → objects_in old p ≡ Some o → objects_in new p ≡ Some (with_values o (stack_shape.refill places o.values))
  pub others : (q : ℕ) → q ≢ p → objects_in new q ≡ objects_in old q
  pub lane : new.lane ≡ old.lane
