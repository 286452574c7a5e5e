-- Laws of the size of an object.
use Rattle.std.proofs.Common.{ℕ, ◌≤◌, arith}
use Rattle.jm_heap.specs.Cells.{class_size}
use Rattle.jm_heap.specs.declared.class_id.ClassId.{ClassId}
use Rattle.jm_heap.specs.declared.class_id.ClassId.TheVariants.{Instance, Array}

-- an instance takes at least a cell for each field
pub fields_within : (class n : ℕ) → n ≤ class_size (Instance class) n
unfolding class_size
fields_within class n = omega arith

-- an object has at least two cells
pub at_least_two : (class : ClassId) (n : ℕ) → 2 ≤ class_size class n
unfolding class_size
at_least_two (Instance c) n = omega arith
at_least_two (Array c) n = omega arith
