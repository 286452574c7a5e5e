-- The texts of a class's names and types are code units.
use Rattle.std.proofs.Common.{◌≡◌, ℕ, zero, suc, ◌^◌, ◌<◌, true, ltb, List, [], ◌∷◌, length, Option, Some, None, arith, replicate}
use Rattle.std.specs.List.{All, list_all, flat_map}
use Rattle.std.proofs.lemmas.Bool.{ltb-true}
use Rattle.std.proofs.lemmas.List.Elements.{All-append, All-nil, All-cons}
use Rattle.jm_program.specs.Descriptors.{base_letter, element_text, field_text, return_text, method_text}
use Rattle.jm_program.specs.declared.descriptor.BaseType.{BaseType}
use Rattle.jm_program.specs.declared.descriptor.BaseType.TheVariants as base
use Rattle.jm_program.specs.declared.descriptor.ElementType.{ElementType}
use Rattle.jm_program.specs.declared.descriptor.ElementType.TheVariants.{Base, Class}
use Rattle.jm_program.specs.declared.descriptor.FieldType.{FieldType}
use Rattle.jm_program.specs.declared.descriptor.MethodDescriptor.{MethodDescriptor}
use Rattle.jm_program.specs.declared.reference.ClassRef.{ClassRef}
use Rattle.jm_program.specs.declared.reference.ClassRef.TheVariants as class_ref
use Rattle.jm_class_writer.specs.PoolUse.{class_text}
use Rattle.jm_class_writer.specs.Ranges.{OfSome, UnitsInRange, ElementInRange, TypeInRange, MethodTypeInRange, ClassRefInRange}
use Rattle.jm_class_writer.proofs.Fitting.{all_at}

-- a unit
abbrev IsUnit : ℕ → Type 0
IsUnit u = u < 2 ^ 16

pub ascii_in_range : (units : List ℕ) → list_all (λ u. ltb u 65536) units ≡ true → UnitsInRange units
ascii_in_range units h = λ k d lt. ltb-true _ 65536 (all_at (λ u. ltb u 65536) units k d h lt)

letter_in_range : (b : BaseType) → IsUnit (base_letter b)
letter_in_range base.Byte = omega arith
letter_in_range base.Char = omega arith
letter_in_range base.Double = omega arith
letter_in_range base.Float = omega arith
letter_in_range base.Int = omega arith
letter_in_range base.Long = omega arith
letter_in_range base.Short = omega arith
letter_in_range base.Boolean = omega arith

-- a text of one sign
sign_in_range : (u : ℕ) → IsUnit u → UnitsInRange (u ∷ [])
sign_in_range u h = All-cons IsUnit u [] h (All-nil IsUnit)

element_in_range : (e : ElementType) → ElementInRange e → UnitsInRange (element_text e)
element_in_range (Base b) r = sign_in_range (base_letter b) (letter_in_range b)
element_in_range (Class name) r = All-append IsUnit (76 ∷ name) (59 ∷ []) (All-cons IsUnit 76 name (omega arith) r) (sign_in_range 59 (omega arith))

brackets_in_range : (n : ℕ) → UnitsInRange (replicate n 91)
brackets_in_range zero = All-nil IsUnit
brackets_in_range (suc n) = All-cons IsUnit 91 (replicate n 91) (omega arith) (brackets_in_range n)

pub type_in_range : (t : FieldType) → TypeInRange t → UnitsInRange (field_text t)
type_in_range t r = All-append IsUnit (replicate t.dimensions 91) (element_text t.element) (brackets_in_range t.dimensions) (element_in_range t.element r)

parameters_in_range : (ts : List FieldType) → All TypeInRange ts → UnitsInRange (flat_map field_text ts)
parameters_in_range [] r = All-nil IsUnit
parameters_in_range (t ∷ ts) r =
    let first : 0 < length (t ∷ ts) = omega arith in
    All-append IsUnit (field_text t) (flat_map field_text ts) (type_in_range t (r 0 t first))
    (parameters_in_range ts (λ k d lt. let later : suc k < length (t ∷ ts) = omega arith in r (suc k) d later))

return_in_range : (t : Option FieldType) → OfSome TypeInRange t → UnitsInRange (return_text t)
return_in_range None r = sign_in_range 86 (omega arith)
return_in_range (Some t) r = type_in_range t r

pub method_type_in_range : (d : MethodDescriptor) → MethodTypeInRange d → UnitsInRange (method_text d)
method_type_in_range d r =
    All-append IsUnit (40 ∷ flat_map field_text d.parameters) (41 ∷ return_text d.return_type)
    (All-cons IsUnit 40 (flat_map field_text d.parameters) (omega arith) (parameters_in_range d.parameters r.0))
    (All-cons IsUnit 41 (return_text d.return_type) (omega arith) (return_in_range d.return_type r.1))

pub class_text_in_range : (c : ClassRef) → ClassRefInRange c → UnitsInRange (class_text c)
class_text_in_range (class_ref.Class name) r = r
class_text_in_range (class_ref.Array t) r = type_in_range t r
