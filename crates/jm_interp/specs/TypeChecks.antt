-- Types beside the marks of objects.
use Rattle.std.specs.Prelude.{◌≡◌, ℕ}
use Rattle.jm_heap.specs.declared.class_id.ClassId.{ClassId}
use Rattle.jm_heap.specs.declared.class_id.ClassId.TheVariants.{Instance}
use Rattle.jm_linked.specs.declared.instruction.LinkedElement.TheVariants as element
use Rattle.jm_linked.specs.declared.instruction.LinkedType.{LinkedType}

-- the type is that of a class whose instances have the mark
pub record IsExactly (id : ClassId) (to : LinkedType) : Type 0 where
  pub class : ℕ
  pub mark : id ≡ Instance class
  pub element : to.element ≡ element.Class class
  pub dimensions : to.dimensions ≡ 0
