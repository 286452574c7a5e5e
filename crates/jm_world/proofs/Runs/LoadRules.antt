-- More reasons why a program does not load, and their order.
use Rattle.std.specs.Prelude.{List, None, Option, Some, [], codes, refl, ◌∷◌, ◌≡◌}
use Rattle.jm_program.specs.declared.class.ClassParts.{ClassParts}
use Rattle.jm_program.specs.declared.descriptor.FieldType.{FieldType}
use Rattle.jm_program.specs.declared.instruction.symbolic.Instr.{Instr}
use Rattle.jm_program.specs.declared.reference.ClassRef.{ClassRef}
use Rattle.jm_program.specs.declared.instruction.operation.SmallInt.TheVariants as small
use Rattle.jm_program.specs.declared.reference.ClassRef.TheVariants as named
use Rattle.jm_program.specs.declared.instruction.symbolic.Instr.TheVariants as instr
use Rattle.jm_program.specs.declared.instruction.operation.FieldOp.TheVariants as field_op
use Rattle.jm_program.specs.declared.instruction.operation.InvokeOp.TheVariants as invoke_op
use Rattle.jm_world.specs.Loads.{Refusal, cycle, duplicate_class, duplicate_member, no_class, no_field, no_main, no_method, refusal, wrong_kind}
use Rattle.jm_world.specs.Written.{abstract_method, anewarray, checkcast, class, class_below, class_of_name, field, getfield, getstatic, handler, iconst, instanceof, int, interface, invokeinterface, invokespecial, invokestatic, invokevirtual, ireturn, main, main_method, method, new, nothing_to, nothing_to_nothing, putfield, putstatic, return, taking}
use Rattle.jm_world.proofs.Runs.Computed.{computed}
use Rattle.jm_world.proofs.Runs.Words.{abstract_class, array_of, checkcast_to, interface_with, string}

-- Main, A with a static and an instance member of each kind, an interface, and an abstract class
abbrev members : List ClassParts
members = class (codes "A") (field 0x0008 (codes "s") int ∷ field 0x0000 (codes "f") int ∷ [])
    (method 0x0008 (codes "sm") nothing_to_nothing (return ∷ []) ∷ method 0x0000 (codes "im") nothing_to_nothing (return ∷ []) ∷ [])
    ∷ interface (codes "I") (abstract_method (codes "m") nothing_to_nothing ∷ method 0x0008 (codes "sm") nothing_to_nothing (return ∷ []) ∷ [])
    ∷ abstract_class (class (codes "N") [] []) ∷ []

abbrev refused : List Instr → Option Refusal
refused instructions = refusal (main instructions ∷ members)

getstatic_of_an_instance_field : refused (getstatic (codes "A") (codes "f") int ∷ return ∷ []) ≡ Some (wrong_kind (codes "f"))
unfolding computed
getstatic_of_an_instance_field = refl

putstatic_of_an_instance_field : refused (putstatic (codes "A") (codes "f") int ∷ return ∷ []) ≡ Some (wrong_kind (codes "f"))
unfolding computed
putstatic_of_an_instance_field = refl

getfield_of_a_static_field : refused (getfield (codes "A") (codes "s") int ∷ return ∷ []) ≡ Some (wrong_kind (codes "s"))
unfolding computed
getfield_of_a_static_field = refl

putfield_of_a_static_field : refused (putfield (codes "A") (codes "s") int ∷ return ∷ []) ≡ Some (wrong_kind (codes "s"))
unfolding computed
putfield_of_a_static_field = refl

invokestatic_of_an_instance_method : refused (invokestatic (codes "A") (codes "im") nothing_to_nothing ∷ return ∷ []) ≡ Some (wrong_kind (codes "im"))
unfolding computed
invokestatic_of_an_instance_method = refl

invokevirtual_of_a_static_method : refused (invokevirtual (codes "A") (codes "sm") nothing_to_nothing ∷ return ∷ []) ≡ Some (wrong_kind (codes "sm"))
unfolding computed
invokevirtual_of_a_static_method = refl

invokespecial_of_a_static_method : refused (invokespecial (codes "A") (codes "sm") nothing_to_nothing ∷ return ∷ []) ≡ Some (wrong_kind (codes "sm"))
unfolding computed
invokespecial_of_a_static_method = refl

invokeinterface_of_a_static_method : refused (invokeinterface (codes "I") (codes "sm") nothing_to_nothing ∷ return ∷ []) ≡ Some (wrong_kind (codes "sm"))
unfolding computed
invokeinterface_of_a_static_method = refl

each_in_its_place : refused (getstatic (codes "A") (codes "s") int ∷ putstatic (codes "A") (codes "s") int ∷ getfield (codes "A") (codes "f") int
    ∷ putfield (codes "A") (codes "f") int ∷ invokestatic (codes "A") (codes "sm") nothing_to_nothing
    ∷ invokevirtual (codes "A") (codes "im") nothing_to_nothing ∷ invokespecial (codes "A") (codes "im") nothing_to_nothing
    ∷ invokeinterface (codes "I") (codes "m") nothing_to_nothing ∷ return ∷ []) ≡
    None
unfolding computed
each_in_its_place = refl

invokeinterface_of_a_class : refused (invokeinterface (codes "A") (codes "im") nothing_to_nothing ∷ return ∷ []) ≡ Some (wrong_kind (codes "A"))
unfolding computed
invokeinterface_of_a_class = refl

invokevirtual_of_an_interface : refused (invokevirtual (codes "I") (codes "m") nothing_to_nothing ∷ return ∷ []) ≡ Some (wrong_kind (codes "I"))
unfolding computed
invokevirtual_of_an_interface = refl

invokespecial_of_an_interface : refused (invokespecial (codes "I") (codes "m") nothing_to_nothing ∷ return ∷ []) ≡ Some (wrong_kind (codes "I"))
unfolding computed
invokespecial_of_an_interface = refl

invokestatic_of_an_interface : refused (invokestatic (codes "I") (codes "sm") nothing_to_nothing ∷ return ∷ []) ≡ Some (wrong_kind (codes "I"))
unfolding computed
invokestatic_of_an_interface = refl

new_of_an_abstract_class : refused (new (codes "N") ∷ return ∷ []) ≡ Some (wrong_kind (codes "N"))
unfolding computed
new_of_an_abstract_class = refl

new_of_string : refused (new (codes "java/lang/String") ∷ return ∷ []) ≡ Some (wrong_kind (codes "java/lang/String"))
unfolding computed
new_of_string = refl

new_of_system : refused (new (codes "java/lang/System") ∷ return ∷ []) ≡ Some (wrong_kind (codes "java/lang/System"))
unfolding computed
new_of_system = refl

new_of_no_class : refused (new (codes "E") ∷ return ∷ []) ≡ Some (no_class (codes "E"))
unfolding computed
new_of_no_class = refl

a_field_of_no_class : refused (getstatic (codes "E") (codes "x") int ∷ return ∷ []) ≡ Some (no_class (codes "E"))
unfolding computed
a_field_of_no_class = refl

a_method_of_no_class : refused (invokestatic (codes "E") (codes "m") nothing_to_nothing ∷ return ∷ []) ≡ Some (no_class (codes "E"))
unfolding computed
a_method_of_no_class = refl

a_cast_to_no_class : refused (checkcast (codes "E") ∷ return ∷ []) ≡ Some (no_class (codes "E"))
unfolding computed
a_cast_to_no_class = refl

a_test_of_no_class : refused (instanceof (codes "E") ∷ return ∷ []) ≡ Some (no_class (codes "E"))
unfolding computed
a_test_of_no_class = refl

an_array_of_no_class : refused (anewarray (codes "E") ∷ return ∷ []) ≡ Some (no_class (codes "E"))
unfolding computed
an_array_of_no_class = refl

a_cast_to_an_array_of_no_class : refused (checkcast_to (array_of (array_of (class_of_name (codes "E")))) ∷ return ∷ []) ≡ Some (no_class (codes "E"))
unfolding computed
a_cast_to_an_array_of_no_class = refl

-- members of array types
abbrev of_array : FieldType → ClassRef
of_array t = named.Array (array_of t)

an_array_has_no_field : refused (instr.Field field_op.GetField (record { class = of_array int; name = codes "x"; descriptor = int }) ∷ return ∷ []) ≡
    Some (no_field (codes "x"))
unfolding computed
an_array_has_no_field = refl

an_array_has_no_method : refused (instr.Invoke invoke_op.Virtual (record { class = of_array int; name = codes "m"; descriptor = nothing_to_nothing }) ∷ return ∷ []) ≡
    Some (no_method (codes "m"))
unfolding computed
an_array_has_no_method = refl

the_class_of_the_elements_of_a_field_comes_first : refused (instr.Field field_op.GetField (record { class = of_array (class_of_name (codes "E")); name = codes "x"; descriptor = int }) ∷ return ∷ []) ≡
    Some (no_class (codes "E"))
unfolding computed
the_class_of_the_elements_of_a_field_comes_first = refl

and_of_a_method : refused (instr.Invoke invoke_op.Virtual (record { class = of_array (class_of_name (codes "E")); name = codes "m"; descriptor = nothing_to_nothing }) ∷ return ∷ []) ≡
    Some (no_class (codes "E"))
unfolding computed
and_of_a_method = refl

-- members of classes
abbrev beside_main : List ClassParts → Option Refusal
beside_main classes = refusal (main (return ∷ []) ∷ classes)

two_methods_of_a_name_and_type : beside_main (class (codes "A") [] (method 0x0000 (codes "m") nothing_to_nothing (return ∷ [])
    ∷ method 0x0008 (codes "m") nothing_to_nothing (return ∷ []) ∷ []) ∷ []) ≡
    Some (duplicate_member (codes "m"))
unfolding computed
two_methods_of_a_name_and_type = refl

two_methods_of_a_name : beside_main (class (codes "A") [] (method 0x0000 (codes "m") nothing_to_nothing (return ∷ [])
    ∷ method 0x0008 (codes "m") (nothing_to int) (iconst small.One ∷ ireturn ∷ []) ∷ []) ∷ []) ≡
    None
unfolding computed
two_methods_of_a_name = refl

system_is_not_extended : beside_main (class_below (codes "java/lang/System") [] (codes "A") [] [] ∷ []) ≡ Some (wrong_kind (codes "java/lang/System"))
unfolding computed
system_is_not_extended = refl

print_stream_is_not_extended : beside_main (class_below (codes "java/io/PrintStream") [] (codes "A") [] [] ∷ []) ≡ Some (wrong_kind (codes "java/io/PrintStream"))
unfolding computed
print_stream_is_not_extended = refl

thread_is_extended : beside_main (class_below (codes "java/lang/Thread") [] (codes "A") [] [] ∷ []) ≡ None
unfolding computed
thread_is_extended = refl

no_superinterface : beside_main (class_below (codes "java/lang/Object") (codes "J" ∷ []) (codes "A") [] [] ∷ []) ≡ Some (no_class (codes "J"))
unfolding computed
no_superinterface = refl

the_superclass_comes_before_the_interfaces : beside_main (class_below (codes "B") (codes "J" ∷ []) (codes "A") [] [] ∷ []) ≡ Some (no_class (codes "B"))
unfolding computed
the_superclass_comes_before_the_interfaces = refl

an_instruction_comes_before_a_catch_type : refusal (class (codes "Main") [] (main_method (handler 0 1 0 (Some (codes "E")) ∷ []) (new (codes "G") ∷ return ∷ []) ∷ []) ∷ []) ≡
    Some (no_class (codes "G"))
unfolding computed
an_instruction_comes_before_a_catch_type = refl

members_come_before_superclasses : beside_main (class_below (codes "B") [] (codes "A") (field 0x0000 (codes "x") int ∷ field 0x0000 (codes "x") int ∷ []) [] ∷ []) ≡
    Some (duplicate_member (codes "x"))
unfolding computed
members_come_before_superclasses = refl

names_come_before_members : beside_main (class (codes "A") (field 0x0000 (codes "x") int ∷ field 0x0000 (codes "x") int ∷ []) [] ∷ class (codes "A") [] [] ∷ []) ≡
    Some (duplicate_class (codes "A"))
unfolding computed
names_come_before_members = refl

main_is_static : refusal (class (codes "Main") [] (method 0x0001 (codes "main") (taking (array_of string)) (return ∷ []) ∷ []) ∷ []) ≡ Some no_main
unfolding computed
main_is_static = refl

main_comes_before_instructions : refusal (class (codes "Main") [] (method 0x0008 (codes "f") nothing_to_nothing (new (codes "E") ∷ return ∷ []) ∷ []) ∷ []) ≡
    Some no_main
unfolding computed
main_comes_before_instructions = refl

an_interface_above_itself : beside_main (interface_with (codes "J" ∷ []) (codes "I") [] [] ∷ interface_with (codes "I" ∷ []) (codes "J") [] [] ∷ []) ≡
    Some (cycle (codes "I"))
unfolding computed
an_interface_above_itself = refl
