-- The names, types and references that the texts of a pool spell (JVMS 4.2, 4.3, 4.4.1, 4.4.2), or why they spell none in their place.
use Rattle.std.specs.Prelude.{ℕ, ◌+◌, ◌==◌, nat_le, nat_lt, Bool, false, if◌then◌else◌, List, [], ◌∷◌, Option, Some, None, Result, Ok, Err}
use Rattle.std.specs.Option.{ok_or}
use Rattle.jm_bytes.specs.Reading.{and_then}
use Rattle.jm_program.specs.Names.{is_class_name, is_unqualified, is_method_name, is_invoked_name}
use Rattle.jm_program.specs.Descriptors.{is_descriptor, argument_slots}
use Rattle.jm_program.specs.DescriptorReading.{whole_descriptor}
use Rattle.jm_program.specs.Instructions.{has_dimensions}
use Rattle.jm_program.specs.References.{receiver_slots}
use Rattle.jm_program.specs.declared.descriptor.BaseType.TheVariants as base
use Rattle.jm_program.specs.declared.descriptor.ElementType.{ElementType}
use Rattle.jm_program.specs.declared.descriptor.ElementType.TheVariants as element
use Rattle.jm_program.specs.declared.descriptor.FieldType.{FieldType}
use Rattle.jm_program.specs.declared.descriptor.MethodDescriptor.{MethodDescriptor}
use Rattle.jm_program.specs.declared.descriptor.Descriptor.{Descriptor}
use Rattle.jm_program.specs.declared.descriptor.Descriptor.TheVariants as descriptor
use Rattle.jm_program.specs.declared.reference.ClassRef.{ClassRef}
use Rattle.jm_program.specs.declared.reference.ClassRef.TheVariants as class_ref
use Rattle.jm_program.specs.declared.reference.FieldRef.{FieldRef}
use Rattle.jm_program.specs.declared.reference.MethodRef.{MethodRef}
use Rattle.jm_program.specs.declared.instruction.operation.InvokeOp.{InvokeOp}
use Rattle.jm_program.specs.declared.instruction.operation.TypeOp.{TypeOp}
use Rattle.jm_program.specs.declared.instruction.operation.TypeOp.TheVariants as type
use Rattle.jm_class_format.specs.declared.read_fault.LeftOutPart.{LeftOutPart}
use Rattle.jm_class_format.specs.declared.read_fault.LeftOutPart.TheVariants as part
use Rattle.jm_class_format.specs.declared.read_fault.ReadFault.{ReadFault}
use Rattle.jm_class_format.specs.declared.read_fault.ReadFault.TheVariants as fault

-- ---- names

abbrev pub name_if : Bool → List ℕ → Result (List ℕ) ReadFault
name_if b units = if b then Ok units else Err fault.BadName

-- the name of a class or an interface (JVMS 4.2.1)
unfoldable pub class_name_of : List ℕ → Result (List ℕ) ReadFault
class_name_of units = name_if (is_class_name units) units

-- the name of a field (JVMS 4.2.2)
unfoldable pub field_name_of : List ℕ → Result (List ℕ) ReadFault
field_name_of units = name_if (is_unqualified units) units

-- the name of a method that a class declares
unfoldable pub method_name_of : List ℕ → Result (List ℕ) ReadFault
method_name_of units = name_if (is_method_name units) units

-- the name of a method that an instruction invokes
unfoldable pub invoked_name_of : List ℕ → Result (List ℕ) ReadFault
invoked_name_of units = name_if (is_invoked_name units) units

-- ---- types

-- 1 where the text has the shape of no descriptor, 2 where a name in it is none
unfoldable pub descriptor_of : List ℕ → Result Descriptor ReadFault
descriptor_of units = and_then (ok_or (whole_descriptor units) fault.BadDescriptor) (λ d. if is_descriptor d then Ok d else Err fault.BadName)

unfoldable pub field_only : Descriptor → Result FieldType ReadFault
field_only (descriptor.Field t) = Ok t
field_only (descriptor.Method d) = Err fault.BadDescriptor

unfoldable pub method_only : Descriptor → Result MethodDescriptor ReadFault
method_only (descriptor.Method d) = Ok d
method_only (descriptor.Field t) = Err fault.BadDescriptor

-- float and double are left out
abbrev pub left_out_element : ElementType → Option LeftOutPart
left_out_element (element.Base base.Float) = Some part.FloatType
left_out_element (element.Base base.Double) = Some part.DoubleType
left_out_element other = None

abbrev pub or_else : {A : Type 0} → Option A → Option A → Option A
or_else None o = o
or_else (Some x) o = Some x

-- the first part of some types that is left out
abbrev pub left_out_types : List FieldType → Option LeftOutPart
left_out_types [] = None
left_out_types (t ∷ ts) = or_else (left_out_element t.element) (left_out_types ts)

abbrev pub left_out_return : Option FieldType → Option LeftOutPart
left_out_return None = None
left_out_return (Some t) = left_out_element t.element

-- the first in the order of the text
unfoldable pub left_out_method_type : MethodDescriptor → Option LeftOutPart
left_out_method_type d = or_else (left_out_types d.parameters) (left_out_return d.return_type)

abbrev pub unless_left_out : {A : Type 0} → Option LeftOutPart → A → Result A ReadFault
unless_left_out None x = Ok x
unless_left_out (Some p) x = Err (fault.LeftOut p)

-- the type of a field (JVMS 4.3.2)
unfoldable pub field_type_of : List ℕ → Result FieldType ReadFault
field_type_of units = and_then (descriptor_of units) (λ d. and_then (field_only d) (λ t. unless_left_out (left_out_element t.element) t))

-- at most 255 slots with those of a receiver
unfoldable pub with_slots : ℕ → MethodDescriptor → Result MethodDescriptor ReadFault
with_slots receiver d = if nat_le (argument_slots d + receiver) 255 then Ok d else Err fault.BadDescriptor

-- the type of a method whose receiver takes so many slots (JVMS 4.3.3)
unfoldable pub method_type_of : ℕ → List ℕ → Result MethodDescriptor ReadFault
method_type_of receiver units =
    and_then (descriptor_of units) (λ d. and_then (method_only d) (λ m. and_then (with_slots receiver m) (λ m. unless_left_out (left_out_method_type m) m)))

-- ---- references

abbrev pub begins_with_bracket : List ℕ → Bool
begins_with_bracket [] = false
begins_with_bracket (u ∷ units) = u == 91

-- an array type, or the name of a class or an interface (JVMS 4.4.1)
unfoldable pub class_ref_of : List ℕ → Result ClassRef ReadFault
class_ref_of units =
    if begins_with_bracket units then and_then (field_type_of units) (λ t. Ok (class_ref.Array t))
    else and_then (class_name_of units) (λ name. Ok (class_ref.Class name))

-- of which an array can be made: it has fewer than 255 dimensions (JVMS 4.9.1)
unfoldable pub element_ref : ClassRef → Result ClassRef ReadFault
element_ref (class_ref.Class name) = Ok (class_ref.Class name)
element_ref (class_ref.Array t) = if nat_lt t.dimensions 255 then Ok (class_ref.Array t) else Err fault.BadDescriptor

-- an array type of so many dimensions or more, and they are one or more (JVMS 6.5 multianewarray)
unfoldable pub dimensioned_ref : ℕ → ClassRef → Result ClassRef ReadFault
dimensioned_ref d class = if has_dimensions class d then Ok class else Err fault.BadAttribute

-- what is done with a class or a type can be done with it
abbrev pub operand_ref : TypeOp → ClassRef → Result ClassRef ReadFault
operand_ref type.NewArray class = element_ref class
operand_ref (type.NewArrays d) class = dimensioned_ref d class
operand_ref other class = Ok class

-- JVMS 4.4.2: the texts of a class, a name and a descriptor
unfoldable pub field_ref_of : List ℕ × List ℕ × List ℕ → Result FieldRef ReadFault
field_ref_of texts =
    and_then (class_ref_of texts.0) (λ class. and_then (field_name_of texts.1) (λ name. and_then (field_type_of texts.2) (λ t. Ok (record { class = class; name = name; descriptor = t }))))

unfoldable pub method_ref_of : InvokeOp → List ℕ × List ℕ × List ℕ → Result MethodRef ReadFault
method_ref_of op texts =
    and_then (class_ref_of texts.0) (λ class. and_then (invoked_name_of texts.1) (λ name. and_then (method_type_of (receiver_slots op) texts.2) (λ d. Ok (record { class = class; name = name; descriptor = d }))))
