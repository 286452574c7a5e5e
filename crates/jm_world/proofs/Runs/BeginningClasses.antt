-- What initializes a class, what does not, and what comes of an initialization that fails.
use Rattle.std.specs.Prelude.{List, None, Some, [], codes, refl, replicate, ◌++◌, ◌∷◌, ◌≡◌}
use Rattle.jm_program.specs.declared.class.ClassParts.{ClassParts}
use Rattle.jm_program.specs.declared.instruction.symbolic.Instr.{Instr}
use Rattle.jm_program.specs.declared.instruction.operation.SmallInt.TheVariants as small
use Rattle.jm_world.specs.Run.{run_from}
use Rattle.jm_world.specs.World.{World, ended_by, state_of}
use Rattle.jm_world.specs.Written.{aconst_null, anewarray, athrow, checkcast, class, class_below, dup, field, getstatic, handler, iconst, idiv, instanceof, int, invokespecial, invokestatic, main, main_method, method, new, nothing_to_nothing, out, pop, println, putstatic, return, start}
use Rattle.jm_world.specs.declared.class_state.ClassState.TheVariants.{Failed, InProgress}
use Rattle.jm_world.specs.declared.stage.Stage.TheVariants.{Begin}
use Rattle.jm_world.specs.declared.reply.ReplyKind.TheVariants as kind
use Rattle.jm_world.proofs.Runs.Computed.{computed, ending_of, in_initialization, in_method, pending_of, steps, where_is}
use Rattle.jm_world.proofs.Runs.Words.{ends, interface_with, kinds_from, printed, with_version}

-- a class that prints 1 as it is initialized
abbrev speaks : ClassParts
speaks = class (codes "B") (field 0x0008 (codes "x") int ∷ []) (
    method 0x0008 (codes "<clinit>") nothing_to_nothing (out ∷ iconst small.One ∷ println int ∷ return ∷ [])
    ∷ method 0x0008 (codes "f") nothing_to_nothing (return ∷ []) ∷ [])

abbrev stores : List ClassParts
stores = main (
    out ∷ iconst small.Two ∷ println int ∷ iconst small.Five ∷ putstatic (codes "B") (codes "x") int
    ∷ out ∷ iconst small.Three ∷ println int ∷ out ∷ getstatic (codes "B") (codes "x") int ∷ println int ∷ return ∷ [])
    ∷ speaks ∷ []

putstatic_initializes : printed stores ≡ codes "2\n1\n3\n5\n"
unfolding computed
putstatic_initializes = refl

abbrev calls : List ClassParts
calls = main (
    out ∷ iconst small.Two ∷ println int ∷ invokestatic (codes "B") (codes "f") nothing_to_nothing
    ∷ out ∷ iconst small.Three ∷ println int ∷ return ∷ [])
    ∷ speaks ∷ []

invokestatic_initializes : printed calls ≡ codes "2\n1\n3\n"
unfolding computed
invokestatic_initializes = refl

abbrev reads : List ClassParts
reads = main (out ∷ iconst small.Two ∷ println int ∷ out ∷ getstatic (codes "B") (codes "x") int ∷ println int ∷ return ∷ []) ∷ speaks ∷ []

getstatic_initializes : printed reads ≡ codes "2\n1\n0\n"
unfolding computed
getstatic_initializes = refl

abbrev makes : List ClassParts
makes = main (
    out ∷ iconst small.Two ∷ println int ∷ new (codes "B") ∷ pop ∷ new (codes "B") ∷ pop
    ∷ out ∷ iconst small.Three ∷ println int ∷ return ∷ [])
    ∷ speaks ∷ []

new_initializes_once : printed makes ≡ codes "2\n1\n3\n"
unfolding computed
new_initializes_once = refl

-- the class that declares the field is initialized, and not the one that is named
abbrev through_a_subclass : List ClassParts
through_a_subclass = main (out ∷ getstatic (codes "C") (codes "x") int ∷ println int ∷ return ∷ [])
    ∷ speaks
    ∷ class_below (codes "B") [] (codes "C") [] (method 0x0008 (codes "<clinit>") nothing_to_nothing (out ∷ iconst small.Four ∷ println int ∷ return ∷ []) ∷ []) ∷ []

the_declaring_class_is_initialized : printed through_a_subclass ≡ codes "1\n0\n"
unfolding computed
the_declaring_class_is_initialized = refl

abbrev types_alone : List ClassParts
types_alone = main (
    iconst small.One ∷ anewarray (codes "B") ∷ pop ∷ aconst_null ∷ checkcast (codes "B") ∷ pop ∷ new (codes "Main") ∷ instanceof (codes "B") ∷ pop
    ∷ out ∷ iconst small.Five ∷ println int ∷ return ∷ [])
    ∷ speaks ∷ []

types_alone_initialize_nothing : printed types_alone ≡ codes "5\n"
unfolding computed
types_alone_initialize_nothing = refl

abbrev below_an_interface : List ClassParts
below_an_interface = main (new (codes "A") ∷ pop ∷ out ∷ iconst small.Five ∷ println int ∷ return ∷ [])
    ∷ class_below (codes "java/lang/Object") (codes "I" ∷ []) (codes "A") [] []
    ∷ interface_with [] (codes "I") (field 0x0009 (codes "x") int ∷ []) (method 0x0008 (codes "<clinit>") nothing_to_nothing (out ∷ iconst small.One ∷ println int ∷ return ∷ []) ∷ []) ∷ []

a_superinterface_is_not_initialized : printed below_an_interface ≡ codes "5\n"
unfolding computed
a_superinterface_is_not_initialized = refl

abbrev an_interface_field : List ClassParts
an_interface_field = main (out ∷ getstatic (codes "A") (codes "x") int ∷ println int ∷ return ∷ [])
    ∷ class_below (codes "java/lang/Object") (codes "I" ∷ []) (codes "A") [] (method 0x0008 (codes "<clinit>") nothing_to_nothing (out ∷ iconst small.Four ∷ println int ∷ return ∷ []) ∷ [])
    ∷ interface_with [] (codes "I") (field 0x0009 (codes "x") int ∷ []) (method 0x0008 (codes "<clinit>") nothing_to_nothing (out ∷ iconst small.One ∷ println int ∷ return ∷ []) ∷ []) ∷ []

a_field_of_an_interface_initializes_it : printed an_interface_field ≡ codes "1\n0\n"
unfolding computed
a_field_of_an_interface_initializes_it = refl

-- an Error that leaves <clinit> stays itself
abbrev error_out : List ClassParts
error_out = main (getstatic (codes "A") (codes "x") int ∷ pop ∷ return ∷ [])
    ∷ class (codes "A") (field 0x0008 (codes "x") int ∷ []) (method 0x0008 (codes "<clinit>") nothing_to_nothing (new (codes "java/lang/Error") ∷ dup
    ∷ invokespecial (codes "java/lang/Error") (codes "<init>") nothing_to_nothing ∷ athrow ∷ []) ∷ []) ∷ []

an_error_stays_itself : ends error_out ≡ Some (ended_by (codes "java/lang/Error"))
unfolding computed
an_error_stays_itself = refl

abbrev exception_out : List ClassParts
exception_out = main (getstatic (codes "A") (codes "x") int ∷ pop ∷ return ∷ [])
    ∷ class (codes "A") (field 0x0008 (codes "x") int ∷ []) (method 0x0008 (codes "<clinit>") nothing_to_nothing (iconst small.One ∷ iconst small.Zero ∷ idiv ∷ pop ∷ return ∷ []) ∷ []) ∷ []

another_exception_is_wrapped : ends exception_out ≡ Some (ended_by (codes "java/lang/ExceptionInInitializerError"))
unfolding computed
another_exception_is_wrapped = refl

-- a superclass whose initialization fails, a class below it, and a main that uses both again
abbrev fails : ClassParts
fails = class (codes "S") (field 0x0008 (codes "x") int ∷ []) (method 0x0008 (codes "<clinit>") nothing_to_nothing (iconst small.One ∷ iconst small.Zero ∷ idiv ∷ pop ∷ return ∷ []) ∷ [])

abbrev below_it : ClassParts
below_it = class_below (codes "S") [] (codes "T") (field 0x0008 (codes "y") int ∷ []) (method 0x0008 (codes "<clinit>") nothing_to_nothing (out ∷ iconst small.One ∷ println int ∷ return ∷ []) ∷ [])

abbrev superclass_fails : List ClassParts
superclass_fails = class (codes "Main") [] (main_method (handler 0 1 3 (Some (codes "java/lang/ExceptionInInitializerError"))
    ∷ handler 4 5 7 (Some (codes "java/lang/NoClassDefFoundError")) ∷ handler 8 9 11 (Some (codes "java/lang/NoClassDefFoundError")) ∷ []) (
    getstatic (codes "T") (codes "y") int ∷ pop ∷ return
    ∷ pop ∷ getstatic (codes "T") (codes "y") int ∷ pop ∷ return
    ∷ pop ∷ getstatic (codes "S") (codes "x") int ∷ pop ∷ return
    ∷ pop ∷ out ∷ iconst small.Five ∷ println int ∷ return ∷ []) ∷ [])
    ∷ fails
    ∷ below_it ∷ []

a_failing_superclass_fails_both : printed superclass_fails ≡ codes "5\n"
unfolding computed
a_failing_superclass_fails_both = refl

-- the classes and the pending exception just before the stages that unwind to main's handler, and
-- between those of the two initializations
abbrev both_failed : World
both_failed = computed superclass_fails (steps 15 1)

abbrev one_failed : World
one_failed = computed superclass_fails (steps 14 1)

the_superclass_has_failed : state_of both_failed (codes "S") ≡ Failed
unfolding computed
the_superclass_has_failed = refl

and_the_class_below : state_of both_failed (codes "T") ≡ Failed
unfolding computed
and_the_class_below = refl

which_was_in_progress : state_of one_failed (codes "T") ≡ InProgress 1
unfolding computed
which_was_in_progress = refl

the_exception_of_the_superclass : pending_of one_failed 1 ≡ Some 3
unfolding computed
the_exception_of_the_superclass = refl

is_the_exception_of_both : pending_of both_failed 1 ≡ Some 3
unfolding computed
is_the_exception_of_both = refl

-- before version 51 the flags of <clinit> do not count
abbrev an_old_initializer : List ClassParts
an_old_initializer = main (out ∷ getstatic (codes "A") (codes "x") int ∷ println int ∷ return ∷ [])
    ∷ class (codes "A") (field 0x0008 (codes "x") int ∷ []) (method 0x0000 (codes "<clinit>") nothing_to_nothing (out ∷ iconst small.One ∷ println int ∷ return ∷ []) ∷ []) ∷ []

an_old_initializer_need_not_be_static : printed an_old_initializer ≡ codes "1\n0\n"
unfolding computed
an_old_initializer_need_not_be_static = refl

abbrev a_new_initializer : List ClassParts
a_new_initializer = main (out ∷ getstatic (codes "A") (codes "x") int ∷ println int ∷ return ∷ [])
    ∷ with_version 52 (class (codes "A") (field 0x0008 (codes "x") int ∷ []) (method 0x0000 (codes "<clinit>") nothing_to_nothing (out ∷ iconst small.One ∷ println int ∷ return ∷ []) ∷ [])) ∷ []

from_version_51_on_it_must : printed a_new_initializer ≡ codes "0\n"
unfolding computed
from_version_51_on_it_must = refl

-- main has begun before its class is initialized, and so its handler at 0 catches
abbrev main_class_fails : List ClassParts
main_class_fails = class (codes "Main") [] (
    main_method (handler 0 1 1 None ∷ []) (
    return
    ∷ pop ∷ out ∷ iconst small.Five ∷ println int ∷ return ∷ [])
    ∷ method 0x0008 (codes "<clinit>") nothing_to_nothing (iconst small.One ∷ iconst small.Zero ∷ idiv ∷ pop ∷ return ∷ []) ∷ []) ∷ []

main_catches_the_failure_of_its_class : printed main_class_fails ≡ codes "5\n"
unfolding computed
main_catches_the_failure_of_its_class = refl

abbrev main_class_fails_uncaught : List ClassParts
main_class_fails_uncaught = class (codes "Main") [] (
    main_method [] (return ∷ [])
    ∷ method 0x0008 (codes "<clinit>") nothing_to_nothing (iconst small.One ∷ iconst small.Zero ∷ idiv ∷ pop ∷ return ∷ []) ∷ []) ∷ []

a_failed_main_class_ends_the_thread : ends main_class_fails_uncaught ≡ Some (ended_by (codes "java/lang/ExceptionInInitializerError"))
unfolding computed
a_failed_main_class_ends_the_thread = refl

-- the second thread waits for the first one's initialization of A, and then finds it done
abbrev waits : List Instr → List ClassParts
waits instructions = main (new (codes "W") ∷ start ∷ getstatic (codes "A") (codes "x") int ∷ pop ∷ return ∷ [])
    ∷ class_below (codes "java/lang/Thread") [] (codes "W") [] (method 0x0001 (codes "run") nothing_to_nothing
    (out ∷ getstatic (codes "A") (codes "x") int ∷ println int ∷ return ∷ []) ∷ [])
    ∷ class (codes "A") (field 0x0008 (codes "x") int ∷ []) (method 0x0008 (codes "<clinit>") nothing_to_nothing instructions ∷ []) ∷ []

abbrev sets_five : List ClassParts
sets_five = waits (iconst small.Five ∷ putstatic (codes "A") (codes "x") int ∷ return ∷ [])

-- A's initialization is at its <clinit> in the first thread, and at its begin in the second
abbrev waiting : List ClassParts → World
waiting program = computed program (steps 13 1 ++ steps 3 2)

the_class_is_in_progress : state_of (waiting sets_five) (codes "A") ≡ InProgress 1
unfolding computed
the_class_is_in_progress = refl

the_second_thread_is_at_begin : where_is (waiting sets_five) 2 ≡ in_initialization (codes "A") Begin ∷ in_method (codes "W") (codes "run") 1 ∷ []
unfolding computed
the_second_thread_is_at_begin = refl

its_events_are_blocked : kinds_from (waiting sets_five) (steps 3 2) ≡ replicate 3 kind.Blocked
unfolding computed
its_events_are_blocked = refl

until_the_class_is_done : kinds_from (run_from (waiting sets_five) (steps 4 1)) (steps 1 2) ≡ kind.Done ∷ []
unfolding computed
until_the_class_is_done = refl

then_it_reads_the_field : (run_from (waiting sets_five) (steps 2 2 ++ steps 6 1 ++ steps 4 2)).output ≡ codes "5\n"
unfolding computed
then_it_reads_the_field = refl

abbrev divides : List ClassParts
divides = waits (iconst small.One ∷ iconst small.Zero ∷ idiv ∷ pop ∷ return ∷ [])

a_failed_class_is_waited_for : kinds_from (waiting divides) (steps 2 2) ≡ replicate 2 kind.Blocked
unfolding computed
a_failed_class_is_waited_for = refl

the_waiting_thread_meets_failed : ending_of (run_from (waiting divides) (steps 20 1 ++ steps 4 2)) 2 ≡ Some (ended_by (codes "java/lang/NoClassDefFoundError"))
unfolding computed
the_waiting_thread_meets_failed = refl

and_the_first_its_exception : ending_of (run_from (waiting divides) (steps 20 1)) 1 ≡ Some (ended_by (codes "java/lang/ExceptionInInitializerError"))
unfolding computed
and_the_first_its_exception = refl
