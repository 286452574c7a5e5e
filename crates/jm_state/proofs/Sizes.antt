-- A heap counts an object's cells as the world does.
use Rattle.std.proofs.Common.{◌≡◌, ℕ, zero, suc, ◌+◌, List, refl, ap}
use Rattle.jm_program.specs.declared.class.ClassParts.{ClassParts}
use Rattle.jm_world.specs.Objects as world
use Rattle.jm_world.specs.Objects.{size_of}
use Rattle.jm_heap.specs.Cells.{class_size, element_cells}
use Rattle.jm_heap.specs.declared.class_id.ClassId.{ClassId}
use Rattle.jm_heap.specs.declared.class_id.ClassId.TheVariants.{Instance, Array}
use Rattle.jm_heap.specs.declared.class_id.Element.{Element}
use Rattle.jm_heap.specs.declared.class_id.Element.TheVariants.{Base, Class}
use Rattle.jm_state.specs.Parts.{element_named, named_type}

module _ (program : List ClassParts) where
  elements_alike : (d : ℕ) (e : Element) (n : ℕ) → world.element_cells d (element_named program e) n ≡ element_cells d e n
  elements_alike zero (Base b) n = refl
  elements_alike zero (Class c) n = refl
  elements_alike (suc d) e n = refl

  pub sizes_alike : (t : ClassId) (n : ℕ) → size_of (named_type program t) n ≡ class_size t n
  unfolding named_type size_of class_size
  sizes_alike (Instance class) n = refl
  sizes_alike (Array c) n = ap (λ k. 3 + k) (elements_alike c.dimensions c.element n)
