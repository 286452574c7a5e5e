-- What the tests of types and of flags say.
use Rattle.std.proofs.Common.{◌≡◌, Bool, true, false, not, refl}
use Rattle.std.specs.Prelude.{nat_eq}
use Rattle.std.proofs.lemmas.Bool.{and_from}
use Rattle.jm_program.specs.Descriptors.{base_letter}
use Rattle.jm_program.specs.declared.descriptor.ElementType.{ElementType}
use Rattle.jm_program.specs.declared.descriptor.ElementType.TheVariants.{Base, Class}
use Rattle.jm_program.specs.declared.descriptor.FieldType.{FieldType}
use Rattle.jm_program.proofs.Numbers.{found_itself}
use Rattle.jm_program.proofs.Texts.{text_itself}
use Rattle.jm_world.specs.Loads.{same_bool}
use Rattle.jm_world.specs.Types.{same_element, same_type}

pub same_flag : (a b : Bool) → not (same_bool a b) ≡ false → a ≡ b
same_flag true true e = refl
same_flag true false e = cc
same_flag false true e = cc
same_flag false false e = refl

pub element_itself : (e : ElementType) → same_element e e ≡ true
element_itself (Base b) = found_itself (base_letter b)
element_itself (Class name) = text_itself name

pub type_itself : (t : FieldType) → same_type t t ≡ true
type_itself t = and_from (nat_eq t.dimensions t.dimensions) (same_element t.element t.element) (found_itself t.dimensions) (element_itself t.element)
