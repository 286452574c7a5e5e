-- Receivers, arguments and results of invokes, and which method or field a name means.
use Rattle.std.specs.Prelude.{List, None, Some, [], codes, pos, refl, ◌∷◌, ◌≡◌}
use Rattle.jm_program.specs.declared.class.ClassParts.{ClassParts}
use Rattle.jm_program.specs.declared.instruction.operation.SmallInt.TheVariants as small
use Rattle.jm_program.specs.declared.instruction.operation.SmallLong.TheVariants as small_long
use Rattle.jm_program.specs.declared.instruction.operation.ShortIndex.TheVariants as short_index
use Rattle.jm_program.specs.declared.constant.Constant.TheVariants as constant
use Rattle.jm_values.specs.declared.fault.TagFault.TheVariants as fault
use Rattle.jm_world.specs.World.{ended_by}
use Rattle.jm_world.specs.Written.{abstract_method, aconst_null, aload, areturn, class, class_below, dup, field, getfield, getstatic, iconst, int, interface, invokeinterface, invokespecial, invokestatic, invokevirtual, ireturn, ldc_text, long, main, main_method, method, new, nothing_to, nothing_to_nothing, out, pop, println, putfield, return}
use Rattle.jm_world.specs.declared.stop.Stop.TheVariants as stop
use Rattle.jm_world.proofs.Runs.Computed.{computed}
use Rattle.jm_world.proofs.Runs.Words.{abstract_class, constant_field, ends, iload, interface_with, istore, lconst, ldc_long, lreturn, method_within, printed, stops_with, string}

abbrev class_a : ClassParts
class_a = class_below (codes "java/lang/Object") (codes "I" ∷ []) (codes "A") [] (method 0x0001 (codes "m") (nothing_to int) (iconst small.One ∷ ireturn ∷ []) ∷ [])

abbrev interface_i : ClassParts
interface_i = interface (codes "I") (abstract_method (codes "m") (nothing_to int) ∷ [])

abbrev invokevirtual_of_null : List ClassParts
invokevirtual_of_null = main (aconst_null ∷ invokevirtual (codes "A") (codes "m") (nothing_to int) ∷ pop ∷ return ∷ []) ∷ class_a ∷ interface_i ∷ []

invokevirtual_of_null_throws : ends invokevirtual_of_null ≡ Some (ended_by (codes "java/lang/NullPointerException"))
unfolding computed
invokevirtual_of_null_throws = refl

abbrev invokespecial_of_null : List ClassParts
invokespecial_of_null = main (aconst_null ∷ invokespecial (codes "A") (codes "m") (nothing_to int) ∷ pop ∷ return ∷ []) ∷ class_a ∷ interface_i ∷ []

invokespecial_of_null_throws : ends invokespecial_of_null ≡ Some (ended_by (codes "java/lang/NullPointerException"))
unfolding computed
invokespecial_of_null_throws = refl

abbrev invokeinterface_of_null : List ClassParts
invokeinterface_of_null = main (aconst_null ∷ invokeinterface (codes "I") (codes "m") (nothing_to int) ∷ pop ∷ return ∷ []) ∷ class_a ∷ interface_i ∷ []

invokeinterface_of_null_throws : ends invokeinterface_of_null ≡ Some (ended_by (codes "java/lang/NullPointerException"))
unfolding computed
invokeinterface_of_null_throws = refl

abbrev too_few_arguments_given : List ClassParts
too_few_arguments_given = class (codes "Main") [] (
    main_method [] (iconst small.One ∷ invokestatic (codes "Main") (codes "f") (record { parameters = int ∷ int ∷ []; return_type = None }) ∷ return ∷ [])
    ∷ method 0x0008 (codes "f") (record { parameters = int ∷ int ∷ []; return_type = None }) (return ∷ [])
    ∷ method 0x0008 (codes "g") (record { parameters = long ∷ int ∷ []; return_type = None }) (return ∷ []) ∷ []) ∷ []

too_few_arguments : stops_with too_few_arguments_given ≡ Some (stop.TagFault fault.Underflow)
unfolding computed
too_few_arguments = refl

abbrev null_is_no_int_argument_given : List ClassParts
null_is_no_int_argument_given = class (codes "Main") [] (
    main_method [] (aconst_null ∷ iconst small.One ∷ invokestatic (codes "Main") (codes "f") (record { parameters = int ∷ int ∷ []; return_type = None }) ∷ return ∷ [])
    ∷ method 0x0008 (codes "f") (record { parameters = int ∷ int ∷ []; return_type = None }) (return ∷ [])
    ∷ method 0x0008 (codes "g") (record { parameters = long ∷ int ∷ []; return_type = None }) (return ∷ []) ∷ []) ∷ []

null_is_no_int_argument : stops_with null_is_no_int_argument_given ≡ Some (stop.TagFault fault.WrongTag)
unfolding computed
null_is_no_int_argument = refl

abbrev a_long_is_no_int_argument_given : List ClassParts
a_long_is_no_int_argument_given = class (codes "Main") [] (
    main_method [] (iconst small.One ∷ lconst small_long.One ∷ invokestatic (codes "Main") (codes "f") (record { parameters = int ∷ int ∷ []; return_type = None }) ∷ return ∷ [])
    ∷ method 0x0008 (codes "f") (record { parameters = int ∷ int ∷ []; return_type = None }) (return ∷ [])
    ∷ method 0x0008 (codes "g") (record { parameters = long ∷ int ∷ []; return_type = None }) (return ∷ []) ∷ []) ∷ []

a_long_is_no_int_argument : stops_with a_long_is_no_int_argument_given ≡ Some (stop.TagFault fault.WrongTag)
unfolding computed
a_long_is_no_int_argument = refl

abbrev an_int_is_no_long_argument_given : List ClassParts
an_int_is_no_long_argument_given = class (codes "Main") [] (
    main_method [] (iconst small.One ∷ iconst small.One ∷ invokestatic (codes "Main") (codes "g") (record { parameters = long ∷ int ∷ []; return_type = None }) ∷ return ∷ [])
    ∷ method 0x0008 (codes "f") (record { parameters = int ∷ int ∷ []; return_type = None }) (return ∷ [])
    ∷ method 0x0008 (codes "g") (record { parameters = long ∷ int ∷ []; return_type = None }) (return ∷ []) ∷ []) ∷ []

an_int_is_no_long_argument : stops_with an_int_is_no_long_argument_given ≡ Some (stop.TagFault fault.WrongTag)
unfolding computed
an_int_is_no_long_argument = refl

abbrev no_receiver_given : List ClassParts
no_receiver_given = main (invokevirtual (codes "A") (codes "m") (nothing_to int) ∷ pop ∷ return ∷ []) ∷ class_a ∷ interface_i ∷ []

no_receiver : stops_with no_receiver_given ≡ Some (stop.TagFault fault.Underflow)
unfolding computed
no_receiver = refl

abbrev int_receiver_given : List ClassParts
int_receiver_given = main (iconst small.One ∷ invokevirtual (codes "A") (codes "m") (nothing_to int) ∷ pop ∷ return ∷ []) ∷ class_a ∷ interface_i ∷ []

an_int_is_no_receiver : stops_with int_receiver_given ≡ Some (stop.TagFault fault.WrongTag)
unfolding computed
an_int_is_no_receiver = refl

abbrev other_special_receiver : List ClassParts
other_special_receiver = main (new (codes "Main") ∷ invokespecial (codes "A") (codes "m") (nothing_to int) ∷ pop ∷ return ∷ []) ∷ class_a ∷ interface_i ∷ []

invokespecial_tests_its_receiver : stops_with other_special_receiver ≡ Some (stop.TagFault fault.WrongKind)
unfolding computed
invokespecial_tests_its_receiver = refl

-- a constructor calls that of the superclass, and so on
abbrev constructors : List ClassParts
constructors = main (new (codes "B") ∷ dup ∷ invokespecial (codes "B") (codes "<init>") nothing_to_nothing ∷ getfield (codes "A") (codes "x") int
    ∷ istore short_index.One ∷ out ∷ iload short_index.One ∷ println int ∷ return ∷ [])
    ∷ class (codes "A") (field 0x0000 (codes "x") int ∷ []) (method 0x0000 (codes "<init>") nothing_to_nothing (aload short_index.Zero
    ∷ invokespecial (codes "java/lang/Object") (codes "<init>") nothing_to_nothing ∷ aload short_index.Zero ∷ iconst small.Five
    ∷ putfield (codes "A") (codes "x") int ∷ out ∷ iconst small.One ∷ println int ∷ return ∷ []) ∷ [])
    ∷ class_below (codes "A") [] (codes "B") [] (method 0x0000 (codes "<init>") nothing_to_nothing (aload short_index.Zero
    ∷ invokespecial (codes "A") (codes "<init>") nothing_to_nothing ∷ out ∷ iconst small.Two ∷ println int ∷ return ∷ []) ∷ []) ∷ []

constructors_are_chained : printed constructors ≡ codes "1\n2\n5\n"
unfolding computed
constructors_are_chained = refl

abbrev own_private : List ClassParts
own_private = class (codes "Main") [] (
    main_method [] (out ∷ new (codes "Main") ∷ invokespecial (codes "Main") (codes "m") (nothing_to int) ∷ println int ∷ return ∷ [])
    ∷ method 0x0002 (codes "m") (nothing_to int) (iconst small.Three ∷ ireturn ∷ []) ∷ []) ∷ []

invokespecial_calls_a_private_method : printed own_private ≡ codes "3\n"
unfolding computed
invokespecial_calls_a_private_method = refl

abbrev virtual_private : List ClassParts
virtual_private = class (codes "Main") [] (
    main_method [] (out ∷ new (codes "Main") ∷ invokevirtual (codes "Main") (codes "m") (nothing_to int) ∷ println int ∷ return ∷ [])
    ∷ method 0x0002 (codes "m") (nothing_to int) (iconst small.Three ∷ ireturn ∷ []) ∷ []) ∷ []

invokevirtual_of_a_private_method_throws : ends virtual_private ≡ Some (ended_by (codes "java/lang/AbstractMethodError"))
unfolding computed
invokevirtual_of_a_private_method_throws = refl

-- a static method of a subclass is not selected
abbrev static_below : List ClassParts
static_below = main (out ∷ new (codes "B") ∷ invokevirtual (codes "A") (codes "m") (nothing_to int) ∷ println int ∷ return ∷ [])
    ∷ class (codes "A") [] (method 0x0001 (codes "m") (nothing_to int) (iconst small.One ∷ ireturn ∷ []) ∷ [])
    ∷ class_below (codes "A") [] (codes "B") [] (method 0x0009 (codes "m") (nothing_to int) (iconst small.Two ∷ ireturn ∷ []) ∷ []) ∷ []

a_static_method_is_passed_over : printed static_below ≡ codes "1\n"
unfolding computed
a_static_method_is_passed_over = refl

-- a field that a superclass and a superinterface declare
abbrev two_fields : List ClassParts
two_fields = main (out ∷ getstatic (codes "C") (codes "x") int ∷ println int ∷ return ∷ [])
    ∷ class_below (codes "S") (codes "J" ∷ []) (codes "C") [] []
    ∷ class (codes "S") (constant_field 0x0009 (codes "x") int (constant.Int (pos 1)) ∷ []) []
    ∷ interface_with (codes "K" ∷ []) (codes "J") [] []
    ∷ interface_with [] (codes "K") (constant_field 0x0019 (codes "x") int (constant.Int (pos 2)) ∷ []) [] ∷ []

superinterfaces_come_before_the_superclass : printed two_fields ≡ codes "2\n"
unfolding computed
superinterfaces_come_before_the_superclass = refl

abbrev two_types : List ClassParts
two_types = class (codes "Main") (constant_field 0x0008 (codes "x") int (constant.Int (pos 1))
    ∷ constant_field 0x0008 (codes "x") long (constant.Long (pos 2)) ∷ []) (main_method [] (out ∷ getstatic (codes "Main") (codes "x") long
    ∷ println long ∷ out ∷ getstatic (codes "Main") (codes "x") int ∷ println int ∷ return ∷ []) ∷ []) ∷ []

fields_are_told_by_their_types : printed two_types ≡ codes "2\n1\n"
unfolding computed
fields_are_told_by_their_types = refl

abbrev overloaded : List ClassParts
overloaded = class (codes "Main") [] (
    main_method [] (out ∷ lconst small_long.One ∷ invokestatic (codes "Main") (codes "f") (record { parameters = long ∷ []; return_type = Some int })
    ∷ println int ∷ out ∷ iconst small.One ∷ invokestatic (codes "Main") (codes "f") (record { parameters = int ∷ []; return_type = Some int })
    ∷ println int ∷ return ∷ [])
    ∷ method 0x0008 (codes "f") (record { parameters = int ∷ []; return_type = Some int }) (iconst small.One ∷ ireturn ∷ [])
    ∷ method 0x0008 (codes "f") (record { parameters = long ∷ []; return_type = Some int }) (iconst small.Two ∷ ireturn ∷ []) ∷ []) ∷ []

methods_are_told_by_their_types : printed overloaded ≡ codes "2\n1\n"
unfolding computed
methods_are_told_by_their_types = refl

abbrev inherited_static : List ClassParts
inherited_static = main (out ∷ invokestatic (codes "B") (codes "f") (nothing_to int) ∷ println int ∷ return ∷ [])
    ∷ class (codes "A") [] (method 0x0008 (codes "f") (nothing_to int) (iconst small.Four ∷ ireturn ∷ []) ∷ [])
    ∷ class_below (codes "A") [] (codes "B") [] [] ∷ []

a_static_method_is_inherited : printed inherited_static ≡ codes "4\n"
unfolding computed
a_static_method_is_inherited = refl

-- invokespecial of an abstract method
abbrev abstract_special : List ClassParts
abstract_special = main (new (codes "B") ∷ invokevirtual (codes "B") (codes "n") (nothing_to int) ∷ pop ∷ return ∷ [])
    ∷ abstract_class (class (codes "A") [] (abstract_method (codes "m") (nothing_to int) ∷ []))
    ∷ class_below (codes "A") [] (codes "B") [] (method 0x0001 (codes "n") (nothing_to int) (aload short_index.Zero ∷ invokespecial (codes "A") (codes "m") (nothing_to int) ∷ ireturn ∷ []) ∷ []) ∷ []

invokespecial_of_an_abstract_method_throws : ends abstract_special ≡ Some (ended_by (codes "java/lang/AbstractMethodError"))
unfolding computed
invokespecial_of_an_abstract_method_throws = refl

-- a method that a superinterface declares
abbrev superinterface_method : List ClassParts
superinterface_method = main (out ∷ new (codes "A") ∷ invokeinterface (codes "J") (codes "m") (nothing_to int) ∷ println int ∷ return ∷ [])
    ∷ class_below (codes "java/lang/Object") (codes "J" ∷ []) (codes "A") [] (method 0x0001 (codes "m") (nothing_to int) (iconst small.One ∷ ireturn ∷ []) ∷ [])
    ∷ interface_with (codes "I" ∷ []) (codes "J") [] []
    ∷ interface_i ∷ []

a_method_of_a_superinterface_is_called : printed superinterface_method ≡ codes "1\n"
unfolding computed
a_method_of_a_superinterface_is_called = refl

abbrev object_through_interface : List ClassParts
object_through_interface = main (new (codes "A") ∷ invokeinterface (codes "I") (codes "m") (nothing_to int) ∷ pop ∷ return ∷ [])
    ∷ class_below (codes "java/lang/Object") (codes "I" ∷ []) (codes "A") [] []
    ∷ interface_i ∷ []

an_abstract_method_throws : ends object_through_interface ≡ Some (ended_by (codes "java/lang/AbstractMethodError"))
unfolding computed
an_abstract_method_throws = refl

abbrev long_result : List ClassParts
long_result = class (codes "Main") [] (
    main_method [] (out ∷ invokestatic (codes "Main") (codes "f") (nothing_to long) ∷ println long ∷ return ∷ [])
    ∷ method 0x0008 (codes "f") (nothing_to long) (ldc_long (pos 12345678901) ∷ lreturn ∷ []) ∷ []) ∷ []

lreturn_gives_the_caller_a_long : printed long_result ≡ codes "12345678901\n"
unfolding computed
lreturn_gives_the_caller_a_long = refl

abbrev reference_result : List ClassParts
reference_result = class (codes "Main") [] (
    main_method [] (out ∷ invokestatic (codes "Main") (codes "f") (nothing_to string) ∷ println string ∷ return ∷ [])
    ∷ method 0x0008 (codes "f") (nothing_to string) (ldc_text (codes "abc") ∷ areturn ∷ []) ∷ []) ∷ []

areturn_gives_the_caller_a_reference : printed reference_result ≡ codes "abc\n"
unfolding computed
areturn_gives_the_caller_a_reference = refl

abbrev room_for_one : List ClassParts
room_for_one = class (codes "Main") [] (
    main_method [] (invokestatic (codes "Main") (codes "g") nothing_to_nothing ∷ return ∷ [])
    ∷ method_within 1 8 [] 0x0008 (codes "g") nothing_to_nothing (invokestatic (codes "Main") (codes "f") (nothing_to long) ∷ return ∷ [])
    ∷ method 0x0008 (codes "f") (nothing_to long) (lconst small_long.One ∷ lreturn ∷ []) ∷ []) ∷ []

a_long_result_needs_room_for_two : stops_with room_for_one ≡ Some (stop.TagFault fault.Overflow)
unfolding computed
a_long_result_needs_room_for_two = refl

abbrev a_long_for_an_int : List ClassParts
a_long_for_an_int = class (codes "Main") [] (
    main_method [] (invokestatic (codes "Main") (codes "f") (nothing_to int) ∷ return ∷ [])
    ∷ method 0x0008 (codes "f") (nothing_to int) (lconst small_long.One ∷ lreturn ∷ []) ∷ []) ∷ []

the_kind_of_a_return_is_the_methods : stops_with a_long_for_an_int ≡ Some (stop.TagFault fault.WrongTag)
unfolding computed
the_kind_of_a_return_is_the_methods = refl

abbrev nothing_for_an_int : List ClassParts
nothing_for_an_int = class (codes "Main") [] (
    main_method [] (invokestatic (codes "Main") (codes "f") (nothing_to int) ∷ return ∷ [])
    ∷ method 0x0008 (codes "f") (nothing_to int) (return ∷ []) ∷ []) ∷ []

return_gives_no_result : stops_with nothing_for_an_int ≡ Some (stop.TagFault fault.WrongTag)
unfolding computed
return_gives_no_result = refl
