-- Types of fields and of objects (JVMS 2.2 to 2.4, 4.3.2).
use Rattle.std.specs.Prelude.{ℕ, zero, suc, ◌+◌, ◌%◌, List, [], ◌∷◌, Bool, true, false, ◌&&◌, nat_eq, Option, Some, None, ℤ, pos}
use Rattle.std.specs.Int.{w32, cast_unsigned}
use Rattle.jm_program.specs.Names.{same_text}
use Rattle.jm_program.specs.Descriptors.{base_letter}
use Rattle.jm_program.specs.declared.descriptor.BaseType.TheVariants as base
use Rattle.jm_program.specs.declared.descriptor.ElementType.{ElementType}
use Rattle.jm_program.specs.declared.descriptor.ElementType.TheVariants.{Base, Class}
use Rattle.jm_program.specs.declared.descriptor.FieldType.{FieldType}
use Rattle.jm_program.specs.declared.descriptor.MethodDescriptor.{MethodDescriptor}
use Rattle.jm_program.specs.declared.reference.ClassRef.{ClassRef}
use Rattle.jm_program.specs.declared.reference.ClassRef.TheVariants as named
use Rattle.jm_program.specs.declared.instruction.operation.PrimitiveType.{PrimitiveType}
use Rattle.jm_program.specs.declared.instruction.operation.PrimitiveType.TheVariants as primitive
use Rattle.jm_program.specs.declared.instruction.operation.OperandType.{OperandType}
use Rattle.jm_program.specs.declared.instruction.operation.OperandType.TheVariants as operand
use Rattle.jm_program.specs.declared.instruction.operation.Conversion.TheVariants.{IntToByte, IntToChar, IntToShort}
use Rattle.jm_values.specs.Conversions.{conversion_of}
use Rattle.jm_values.specs.Objects.{default_of}
use Rattle.jm_values.specs.declared.value.Value.{Value}
use Rattle.jm_values.specs.declared.value.Value.TheVariants.{Int}

-- whether two types are one type, by their texts
abbrev pub same_element : ElementType → ElementType → Bool
same_element (Base a) (Base b) = nat_eq (base_letter a) (base_letter b)
same_element (Class m) (Class n) = same_text m n
same_element (Base a) (Class n) = false
same_element (Class m) (Base b) = false

abbrev pub same_type : FieldType → FieldType → Bool
same_type a b = nat_eq a.dimensions b.dimensions && same_element a.element b.element

abbrev pub same_types : List FieldType → List FieldType → Bool
same_types [] [] = true
same_types (a ∷ as') (b ∷ bs) = same_type a b && same_types as' bs
same_types [] (b ∷ bs) = false
same_types (a ∷ as') [] = false

abbrev pub same_result : Option FieldType → Option FieldType → Bool
same_result None None = true
same_result (Some a) (Some b) = same_type a b
same_result None (Some b) = false
same_result (Some a) None = false

abbrev pub same_method_type : MethodDescriptor → MethodDescriptor → Bool
same_method_type a b = same_types a.parameters b.parameters && same_result a.return_type b.return_type

-- what an object is: an instance of a class, or an array whose elements are of a type (JVMS 2.4)
pub data ObjectType : Type 0 where
  instance_of : List ℕ → ObjectType
  array_of : FieldType → ObjectType

abbrev pub class_type : List ℕ → FieldType
class_type name = record { dimensions = 0; element = Class name }

-- the type of a variable that can hold the object
abbrev pub type_of_object : ObjectType → FieldType
type_of_object (instance_of name) = class_type name
type_of_object (array_of component) = record component { dimensions = component.dimensions + 1 }

-- the type that a class, an interface or an array type is as a type of variables
abbrev pub type_of_ref : ClassRef → FieldType
type_of_ref (named.Class name) = class_type name
type_of_ref (named.Array t) = t

-- the element type of newarray (JVMS 6.5 newarray)
abbrev pub primitive_type : PrimitiveType → FieldType
primitive_type primitive.Boolean = record { dimensions = 0; element = Base base.Boolean }
primitive_type primitive.Char = record { dimensions = 0; element = Base base.Char }
primitive_type primitive.Byte = record { dimensions = 0; element = Base base.Byte }
primitive_type primitive.Short = record { dimensions = 0; element = Base base.Short }
primitive_type primitive.Int = record { dimensions = 0; element = Base base.Int }
primitive_type primitive.Long = record { dimensions = 0; element = Base base.Long }

-- the operands and locals that hold values of a type (JVMS 2.11.1)
abbrev pub element_operand : ElementType → OperandType
element_operand (Base base.Long) = operand.Long
element_operand (Base b) = operand.Int
element_operand (Class name) = operand.Reference

abbrev pub operand_in : ℕ → ElementType → OperandType
operand_in zero element = element_operand element
operand_in (suc n) element = operand.Reference

abbrev pub operand_of : FieldType → OperandType
operand_of t = operand_in t.dimensions t.element

-- what a variable of the type begins with (JVMS 2.3, 2.4)
abbrev pub default_value : FieldType → Value
default_value t = default_of (operand_of t)

-- what a variable of the type keeps of an int: a byte and a short the sign from 8 and 16 bits, a
-- char the low 16 bits, a boolean the low bit (JVMS 6.5 bastore, castore, sastore)
abbrev pub narrow_int : ElementType → ℤ → ℤ
narrow_int (Base base.Byte) n = conversion_of IntToByte n
narrow_int (Base base.Char) n = conversion_of IntToChar n
narrow_int (Base base.Short) n = conversion_of IntToShort n
narrow_int (Base base.Boolean) n = pos (cast_unsigned w32 n % 2)
narrow_int _ n = n

-- an int narrows by the element alone, whatever the dimensions: a variable of an array type holds
-- no int
abbrev pub narrow : FieldType → Value → Value
narrow t (Int n) = Int (narrow_int t.element n)
narrow t v = v
