-- Arrays, casts, fields and their checks.
use Rattle.std.specs.Prelude.{◌≡◌, ℕ, List, [], ◌∷◌, ◌++◌, Option, Some, None, refl, codes, pos, negsuc, ℤ}
use Rattle.jm_program.specs.declared.class.ClassParts.{ClassParts}
use Rattle.jm_program.specs.declared.constant.Constant.TheVariants as constant
use Rattle.jm_program.specs.declared.descriptor.BaseType.TheVariants as base
use Rattle.jm_program.specs.declared.descriptor.ElementType.TheVariants.{Base}
use Rattle.jm_program.specs.declared.descriptor.FieldType.{FieldType}
use Rattle.jm_program.specs.declared.instruction.symbolic.Instr.{Instr}
use Rattle.jm_program.specs.declared.instruction.operation.ArrayKind.{ArrayKind}
use Rattle.jm_program.specs.declared.instruction.operation.ArrayKind.TheVariants as kind
use Rattle.jm_program.specs.declared.instruction.operation.PrimitiveType.{PrimitiveType}
use Rattle.jm_program.specs.declared.instruction.operation.PrimitiveType.TheVariants as primitive
use Rattle.jm_program.specs.declared.instruction.operation.SmallInt.TheVariants as small
use Rattle.jm_program.specs.declared.instruction.operation.ShortIndex.TheVariants as short
use Rattle.jm_values.specs.declared.value.Value.TheVariants.{Ref}
use Rattle.jm_values.specs.declared.fault.TagFault.TheVariants as fault
use Rattle.jm_world.specs.World.{Ending, ended_by}
use Rattle.jm_world.specs.Written.{main, class, class_below, field, main_method, iconst, bipush, ldc_int, dup, getstatic, putstatic, getfield, putfield, out, println, int, long, return, new, aload, astore, aconst_null, array_load, array_store, newarray, newarray_int, anewarray, checkcast, instanceof, monitorenter, monitorexit, athrow, ldc_text}
use Rattle.jm_world.specs.declared.stop.Stop.{Stop}
use Rattle.jm_world.specs.declared.stop.Stop.TheVariants as stop
use Rattle.jm_world.proofs.Runs.Computed.{computed, steps, ending_of, operands, pending_of}

-- an int that is stored in an array of a type and loaded again
abbrev through : PrimitiveType → ArrayKind → ℤ → List ClassParts
through t k n = main (out ∷ iconst small.Two ∷ newarray t ∷ dup ∷ iconst small.One ∷ ldc_int n ∷ array_store k ∷ iconst small.One ∷ array_load k ∷ println int ∷ return ∷ []) ∷ []

a_byte_keeps_its_sign : (computed (through primitive.Byte kind.Byte (pos 456)) (steps 14 1)).output ≡ codes "-56\n"
unfolding computed
a_byte_keeps_its_sign = refl

a_boolean_keeps_its_low_bit : (computed (through primitive.Boolean kind.Byte (pos 6)) (steps 14 1)).output ≡ codes "0\n"
unfolding computed
a_boolean_keeps_its_low_bit = refl

a_char_has_no_sign : (computed (through primitive.Char kind.Char (negsuc 0)) (steps 14 1)).output ≡ codes "65535\n"
unfolding computed
a_char_has_no_sign = refl

a_short_keeps_its_sign : (computed (through primitive.Short kind.Short (pos 65535)) (steps 14 1)).output ≡ codes "-1\n"
unfolding computed
a_short_keeps_its_sign = refl

-- how main ends, and whether the world stops
abbrev ends : List Instr → List ClassParts → ℕ → Option Ending
ends instructions classes count = ending_of (computed (main instructions ∷ classes) (steps count 1)) 1

abbrev stops : List Instr → List ClassParts → ℕ → Option Stop
stops instructions classes count = (computed (main instructions ∷ classes) (steps count 1)).stop

a_wrong_array_stops : stops (iconst small.Two ∷ newarray primitive.Byte ∷ iconst small.Zero ∷ array_load kind.Int ∷ return ∷ []) [] 9 ≡ Some (stop.TagFault fault.WrongKind)
unfolding computed
a_wrong_array_stops = refl

a_negative_index_throws : ends (iconst small.Two ∷ newarray_int ∷ iconst small.MinusOne ∷ array_load kind.Int ∷ return ∷ []) [] 8 ≡ Some (ended_by (codes "java/lang/ArrayIndexOutOfBoundsException"))
unfolding computed
a_negative_index_throws = refl

an_index_past_the_end_throws : ends (iconst small.Two ∷ newarray_int ∷ iconst small.Two ∷ array_load kind.Int ∷ return ∷ []) [] 8 ≡ Some (ended_by (codes "java/lang/ArrayIndexOutOfBoundsException"))
unfolding computed
an_index_past_the_end_throws = refl

a_null_array_throws : ends (aconst_null ∷ iconst small.Two ∷ array_load kind.Int ∷ return ∷ []) [] 7 ≡ Some (ended_by (codes "java/lang/NullPointerException"))
unfolding computed
a_null_array_throws = refl

a_negative_length_throws : ends (iconst small.MinusOne ∷ newarray_int ∷ return ∷ []) [] 6 ≡ Some (ended_by (codes "java/lang/NegativeArraySizeException"))
unfolding computed
a_negative_length_throws = refl

-- A and B below it
abbrev a_and_b : List ClassParts
a_and_b = class (codes "A") [] [] ∷ class_below (codes "A") [] (codes "B") [] [] ∷ []

abbrev stored : List ℕ → List ℕ → List Instr
stored element object = iconst small.One ∷ anewarray element ∷ iconst small.Zero ∷ new object ∷ array_store kind.Reference ∷ return ∷ []

a_subclass_is_stored : stops (stored (codes "A") (codes "B")) a_and_b 16 ≡ None
unfolding computed
a_subclass_is_stored = refl

a_superclass_is_not : ends (stored (codes "B") (codes "A")) a_and_b 14 ≡ Some (ended_by (codes "java/lang/ArrayStoreException"))
unfolding computed
a_superclass_is_not = refl

-- casts
abbrev tested : List Instr → List ℕ → List ClassParts
tested object to = main (out ∷ object ++ instanceof to ∷ println int ∷ return ∷ []) ∷ a_and_b

an_object_is_of_its_superclass : (computed (tested (new (codes "B") ∷ []) (codes "A")) (steps 20 1)).output ≡ codes "1\n"
unfolding computed
an_object_is_of_its_superclass = refl

and_not_of_its_subclass : (computed (tested (new (codes "A") ∷ []) (codes "B")) (steps 20 1)).output ≡ codes "0\n"
unfolding computed
and_not_of_its_subclass = refl

null_is_of_none : (computed (tested (aconst_null ∷ []) (codes "A")) (steps 20 1)).output ≡ codes "0\n"
unfolding computed
null_is_of_none = refl

an_array_is_serializable : (computed (tested (iconst small.One ∷ newarray_int ∷ []) (codes "java/io/Serializable")) (steps 20 1)).output ≡ codes "1\n"
unfolding computed
an_array_is_serializable = refl

a_string_is_serializable : (computed (tested (ldc_text (codes "a") ∷ []) (codes "java/io/Serializable")) (steps 20 1)).output ≡ codes "1\n"
unfolding computed
a_string_is_serializable = refl

null_passes_a_cast : stops (aconst_null ∷ checkcast (codes "A") ∷ return ∷ []) a_and_b 9 ≡ None
unfolding computed
null_passes_a_cast = refl

another_class_does_not : ends (new (codes "A") ∷ checkcast (codes "B") ∷ return ∷ []) a_and_b 10 ≡ Some (ended_by (codes "java/lang/ClassCastException"))
unfolding computed
another_class_does_not = refl

-- fields: a byte is narrowed, a long stays, and a constant is there after begin
abbrev byte : FieldType
byte = record { dimensions = 0; element = Base base.Byte }

abbrev with_fields : List Instr → List ClassParts
with_fields instructions = class (codes "Main") (
    field 0x0008 (codes "b") byte ∷ field 0x0008 (codes "l") long
    ∷ record { flags = record { bits = 0x0018 }; name = codes "c"; descriptor = int; constant = Some (constant.Int (pos 42)) }
    ∷ field 0x0000 (codes "f") byte ∷ []) (main_method [] instructions ∷ []) ∷ class_below (codes "Main") [] (codes "S") (field 0x0000 (codes "f") byte ∷ []) [] ∷ []

a_static_is_narrowed : (computed (with_fields (ldc_int (pos 456) ∷ putstatic (codes "Main") (codes "b") byte ∷ out ∷ getstatic (codes "Main") (codes "b") byte ∷ println int ∷ return ∷ [])) (steps 9 1)).output ≡ codes "-56\n"
unfolding computed
a_static_is_narrowed = refl

a_constant_is_set_at_begin : (computed (with_fields (out ∷ getstatic (codes "Main") (codes "c") int ∷ println int ∷ return ∷ [])) (steps 7 1)).output ≡ codes "42\n"
unfolding computed
a_constant_is_set_at_begin = refl

-- the fields of a class and its superclass are two, though their names are one
two_fields_of_one_name : (computed (with_fields (
    new (codes "S") ∷ astore short.One
    ∷ aload short.One ∷ bipush (pos 1) ∷ putfield (codes "Main") (codes "f") byte
    ∷ aload short.One ∷ bipush (pos 2) ∷ putfield (codes "S") (codes "f") byte
    ∷ out ∷ aload short.One ∷ getfield (codes "Main") (codes "f") byte ∷ println int ∷ return ∷ [])) (steps 30 1)).output ≡ codes "1\n"
unfolding computed
two_fields_of_one_name = refl

-- athrow leaves the frame as it is, and takes a Throwable
an_exception_is_thrown : pending_of (computed (main (new (codes "java/lang/Error") ∷ athrow ∷ []) ∷ []) (steps 5 1)) 1 ≡ Some 2
unfolding computed
an_exception_is_thrown = refl

and_stays_an_operand : operands (computed (main (new (codes "java/lang/Error") ∷ athrow ∷ []) ∷ []) (steps 5 1)) 1 ≡ Ref 2 ∷ []
unfolding computed
and_stays_an_operand = refl

no_throwable_stops : stops (new (codes "A") ∷ athrow ∷ []) a_and_b 9 ≡ Some (stop.TagFault fault.WrongKind)
unfolding computed
no_throwable_stops = refl

-- a monitor is entered twice and left twice; a third time throws
abbrev entered : List Instr
entered = new (codes "java/lang/Object") ∷ astore short.One ∷ aload short.One ∷ monitorenter ∷ aload short.One ∷ monitorenter ∷ []

abbrev left : List Instr
left = aload short.One ∷ monitorexit ∷ []

a_monitor_counts : (computed (main (entered ++ return ∷ []) ∷ []) (steps 9 1)).monitors ≡ record { object = 2; owner = 1; count = 2 } ∷ []
unfolding computed
a_monitor_counts = refl

structured_locking_is_not_enforced : (computed (main (entered ++ return ∷ []) ∷ []) (steps 10 1)).monitors ≡ record { object = 2; owner = 1; count = 2 } ∷ []
unfolding computed
structured_locking_is_not_enforced = refl

two_exits_free_it : (computed (main (entered ++ left ++ left ++ return ∷ []) ∷ []) (steps 13 1)).monitors ≡ []
unfolding computed
two_exits_free_it = refl

a_third_exit_throws : ends (entered ++ left ++ left ++ left ++ return ∷ []) [] 16 ≡ Some (ended_by (codes "java/lang/IllegalMonitorStateException"))
unfolding computed
a_third_exit_throws = refl
