-- The object that is made of a shape (JVMS 2.3, 2.4).
use Rattle.std.specs.Prelude.{ℕ, zero, suc, ◌<◌, ◌^◌, List, length, map}
use Rattle.std.specs.List.{All}
use Rattle.jm_program.specs.declared.descriptor.BaseType.TheVariants as base
use Rattle.jm_program.specs.declared.instruction.operation.OperandType.{OperandType}
use Rattle.jm_program.specs.declared.instruction.operation.OperandType.TheVariants as operand
use Rattle.jm_values.specs.Objects.{ObjectOf, copies, default_of}
use Rattle.jm_heap.specs.declared.class_id.ClassId.{ClassId}
use Rattle.jm_heap.specs.declared.class_id.ClassId.TheVariants as kind
use Rattle.jm_heap.specs.declared.class_id.Component.{Component}
use Rattle.jm_heap.specs.declared.class_id.Element.{Element}
use Rattle.jm_heap.specs.declared.class_id.Element.TheVariants.{Base, Class}
use Rattle.jm_heap.specs.declared.shape.Shape.{Shape}
use Rattle.jm_heap.specs.declared.shape.Shape.TheVariants.{Instance, Array}

-- the operands that hold values of an element: ints, longs, or references (JVMS 2.11.1)
abbrev pub operand_of_element : Element → OperandType
operand_of_element (Base base.Long) = operand.Long
operand_of_element (Base b) = operand.Int
operand_of_element (Class class) = operand.Reference

abbrev pub operand_under : ℕ → Element → OperandType
operand_under zero element = operand_of_element element
operand_under (suc n) element = operand.Reference

abbrev pub operand_of_component : Component → OperandType
operand_of_component c = operand_under c.dimensions c.element

-- an instance has the default value of each of its fields, and an array that of its elements
unfoldable pub new_object : Shape → ObjectOf ClassId
new_object (Instance class fields) = record { type = kind.Instance class; values = map default_of fields.now }
new_object (Array component count) = record { type = kind.Array component; values = copies count (default_of (operand_of_component component)) }

-- each has fewer than 2^32 values
abbrev pub AreShort : List (ObjectOf ClassId) → Type 0
AreShort os = All (λ o. length o.values < 2 ^ 32) os
