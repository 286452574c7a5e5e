-- Which handler catches an exception.
use Rattle.std.specs.Prelude.{List, None, Some, [], codes, refl, ℕ, ◌∷◌, ◌≡◌}
use Rattle.jm_program.specs.declared.class.ClassParts.{ClassParts}
use Rattle.jm_program.specs.declared.instruction.operation.SmallInt.TheVariants as small
use Rattle.jm_values.specs.declared.fault.TagFault.TheVariants as fault
use Rattle.jm_world.specs.World.{ended_by}
use Rattle.jm_world.specs.Written.{aconst_null, athrow, class, class_below, handler, iconst, idiv, int, interface, invokestatic, main, main_method, method, method_catching, new, nothing_to_nothing, out, pop, println, return}
use Rattle.jm_world.specs.declared.stop.Stop.TheVariants as stop
use Rattle.jm_world.proofs.Runs.Computed.{computed, in_method, steps, where_is}
use Rattle.jm_world.proofs.Runs.Words.{ends, method_within, printed, stops_with}

-- a division by zero, with a handler of a class that prints 1, and behind it one for all that prints 2
abbrev caught_by : List ℕ → List ClassParts
caught_by class_name = class (codes "Main") [] (main_method (handler 0 3 4 (Some class_name) ∷ handler 0 3 9 None ∷ [])
    (iconst small.One ∷ iconst small.Zero ∷ idiv ∷ return
    ∷ pop ∷ out ∷ iconst small.One ∷ println int ∷ return
    ∷ pop ∷ out ∷ iconst small.Two ∷ println int ∷ return ∷ []) ∷ []) ∷ []

its_own_class_catches : printed (caught_by (codes "java/lang/ArithmeticException")) ≡ codes "1\n"
unfolding computed
its_own_class_catches = refl

another_class_does_not_catch : printed (caught_by (codes "java/lang/NullPointerException")) ≡ codes "2\n"
unfolding computed
another_class_does_not_catch = refl

a_superclass_catches : printed (caught_by (codes "java/lang/RuntimeException")) ≡ codes "1\n"
unfolding computed
a_superclass_catches = refl

object_catches : printed (caught_by (codes "java/lang/Object")) ≡ codes "1\n"
unfolding computed
object_catches = refl

an_interface_of_throwable_catches : printed (caught_by (codes "java/io/Serializable")) ≡ codes "1\n"
unfolding computed
an_interface_of_throwable_catches = refl

a_string_does_not_catch : printed (caught_by (codes "java/lang/String")) ≡ codes "2\n"
unfolding computed
a_string_does_not_catch = refl

-- an interface that the class of the exception implements
abbrev an_own_exception : List ClassParts
an_own_exception = class (codes "Main") [] (main_method (handler 0 2 3 (Some (codes "I")) ∷ handler 0 2 8 None ∷ []) (
    new (codes "E") ∷ athrow ∷ return
    ∷ pop ∷ out ∷ iconst small.One ∷ println int ∷ return
    ∷ pop ∷ out ∷ iconst small.Two ∷ println int ∷ return ∷ []) ∷ [])
    ∷ class_below (codes "java/lang/Exception") (codes "I" ∷ []) (codes "E") [] []
    ∷ interface (codes "I") [] ∷ []

an_interface_catches : printed an_own_exception ≡ codes "1\n"
unfolding computed
an_interface_catches = refl

-- no handler of f fits, and one of its caller does
abbrev in_a_caller : List ClassParts
in_a_caller = class (codes "Main") [] (
    main_method (handler 0 1 2 (Some (codes "java/lang/ArithmeticException")) ∷ []) (
    invokestatic (codes "Main") (codes "f") nothing_to_nothing ∷ return
    ∷ pop ∷ out ∷ iconst small.Three ∷ println int ∷ return ∷ [])
    ∷ method_catching (handler 0 2 5 (Some (codes "java/lang/ArithmeticException")) ∷ handler 2 4 5 (Some (codes "java/lang/NullPointerException")) ∷ []) 0x0008 (codes "f") nothing_to_nothing (
    iconst small.One ∷ iconst small.Zero ∷ idiv ∷ pop ∷ return
    ∷ pop ∷ out ∷ iconst small.One ∷ println int ∷ return ∷ []) ∷ []) ∷ []

a_handler_in_the_caller_catches : printed in_a_caller ≡ codes "3\n"
unfolding computed
a_handler_in_the_caller_catches = refl

-- an exception in a handler is caught by another
abbrev in_the_handler : List ClassParts
in_the_handler = class (codes "Main") [] (main_method (handler 0 3 4 (Some (codes "java/lang/ArithmeticException")) ∷ handler 4 8 8 (Some (codes "java/lang/ArithmeticException")) ∷ []) (
    iconst small.One ∷ iconst small.Zero ∷ idiv ∷ return
    ∷ iconst small.One ∷ iconst small.Zero ∷ idiv ∷ return
    ∷ pop ∷ out ∷ iconst small.Two ∷ println int ∷ return ∷ []) ∷ []) ∷ []

a_handler_may_throw : printed in_the_handler ≡ codes "2\n"
unfolding computed
a_handler_may_throw = refl

-- a handler in a method whose max_stack is 0
abbrev no_room : List ClassParts
no_room = class (codes "Main") [] (
    main_method [] (invokestatic (codes "Main") (codes "f") nothing_to_nothing ∷ return ∷ [])
    ∷ method_within 0 8 (handler 0 1 2 None ∷ []) 0x0008 (codes "f") nothing_to_nothing (
    invokestatic (codes "Main") (codes "g") nothing_to_nothing ∷ return
    ∷ return ∷ [])
    ∷ method 0x0008 (codes "g") nothing_to_nothing (iconst small.One ∷ iconst small.Zero ∷ idiv ∷ pop ∷ return ∷ []) ∷ []) ∷ []

a_handler_needs_room : stops_with no_room ≡ Some (stop.TagFault fault.Overflow)
unfolding computed
a_handler_needs_room = refl

and_the_frame_stays_at_its_call : where_is (computed no_room (steps 100 1)) 1 ≡ in_method (codes "Main") (codes "f") 0 ∷ in_method (codes "Main") (codes "main") 0 ∷ []
unfolding computed
and_the_frame_stays_at_its_call = refl

abbrev throws_null : List ClassParts
throws_null = main (aconst_null ∷ athrow ∷ []) ∷ []

athrow_of_null_throws : ends throws_null ≡ Some (ended_by (codes "java/lang/NullPointerException"))
unfolding computed
athrow_of_null_throws = refl
