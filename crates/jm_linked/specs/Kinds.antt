-- What a variable of a type holds: a method's result, a field or an element of an array (JVMS 2.3, 2.4).
use Rattle.std.specs.Prelude.{ℕ, zero, suc}
use Rattle.jm_program.specs.declared.descriptor.BaseType.TheVariants as base
use Rattle.jm_program.specs.declared.descriptor.ElementType.{ElementType}
use Rattle.jm_program.specs.declared.descriptor.ElementType.TheVariants.{Base, Class}
use Rattle.jm_program.specs.declared.descriptor.FieldType.{FieldType}
use Rattle.jm_linked.specs.declared.kind.ValueKind.{ValueKind}
use Rattle.jm_linked.specs.declared.kind.ValueKind.TheVariants as kind

-- the profile has no float and no double
abbrev pub element_kind : ElementType → ValueKind
element_kind (Base base.Boolean) = kind.Boolean
element_kind (Base base.Byte) = kind.Byte
element_kind (Base base.Char) = kind.Char
element_kind (Base base.Short) = kind.Short
element_kind (Base base.Long) = kind.Long
element_kind (Base b) = kind.Int
element_kind (Class name) = kind.Reference

abbrev pub kind_in : ℕ → ElementType → ValueKind
kind_in zero element = element_kind element
kind_in (suc n) element = kind.Reference

abbrev pub kind_of : FieldType → ValueKind
kind_of t = kind_in t.dimensions t.element
