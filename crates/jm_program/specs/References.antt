-- Which references to classes, fields and methods there are (JVMS 4.4.1, 4.4.2).
use Rattle.std.specs.Prelude.{ℕ, ◌+◌, Bool, true, false, ◌&&◌, nat_lt, nat_le}
use Rattle.jm_program.specs.Names.{is_class_name, is_unqualified, is_invoked_name}
use Rattle.jm_program.specs.Descriptors.{is_field_type, is_kept_field_type, is_method_type, is_kept_method_type, argument_slots}
use Rattle.jm_program.specs.declared.descriptor.FieldType.{FieldType}
use Rattle.jm_program.specs.declared.reference.ClassRef.{ClassRef}
use Rattle.jm_program.specs.declared.reference.ClassRef.TheVariants.{Class, Array}
use Rattle.jm_program.specs.declared.reference.FieldRef.{FieldRef}
use Rattle.jm_program.specs.declared.reference.MethodRef.{MethodRef}
use Rattle.jm_program.specs.declared.instruction.operation.InvokeOp.{InvokeOp}
use Rattle.jm_program.specs.declared.instruction.operation.InvokeOp.TheVariants.{Virtual, Special, Static, Interface}

-- a type that the profile has: a field type with neither float nor double
abbrev pub type_fits : FieldType → Bool
type_fits t = is_field_type t && is_kept_field_type t

-- the name of a class, or an array type (JVMS 4.4.1)
abbrev pub class_ref_fits : ClassRef → Bool
class_ref_fits (Class name) = is_class_name name
class_ref_fits (Array t) = nat_lt 0 t.dimensions && type_fits t

-- JVMS 4.4.2
abbrev pub field_ref_fits : FieldRef → Bool
field_ref_fits f = class_ref_fits f.class && is_unqualified f.name && type_fits f.descriptor

-- all but a static invoke hand on a receiver (JVMS 6.5)
abbrev pub receiver_slots : InvokeOp → ℕ
receiver_slots Static = 0
receiver_slots _ = 1

-- JVMS 4.4.2, and at most 255 argument slots with the receiver (JVMS 4.3.3)
abbrev pub method_ref_fits : InvokeOp → MethodRef → Bool
method_ref_fits op m =
    class_ref_fits m.class && is_invoked_name m.name && is_method_type m.descriptor && is_kept_method_type m.descriptor
    && nat_le (argument_slots m.descriptor + receiver_slots op) 255
