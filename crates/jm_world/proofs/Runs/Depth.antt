-- What stands at the limit of 512 frames.
use Rattle.std.specs.Prelude.{List, None, Option, Some, [], codes, length, refl, replicate, slice_get, ℕ, ◌++◌, ◌∷◌, ◌≡◌}
use Rattle.jm_program.specs.declared.class.ClassParts.{ClassParts}
use Rattle.jm_program.specs.declared.instruction.symbolic.Instr.{Instr}
use Rattle.jm_world.specs.Objects.{Object}
use Rattle.jm_world.specs.Run.{run_from}
use Rattle.jm_world.specs.Types.{ObjectType, instance_of}
use Rattle.jm_world.specs.World.{World, state_of}
use Rattle.jm_world.specs.Written.{abstract_method, class, class_below, class_of_name, field, getstatic, handler, int, interface, invokeinterface, invokestatic, invokevirtual, main_method, method, method_catching, monitorenter, new, nothing_to_nothing, pop, putstatic, return, start}
use Rattle.jm_world.specs.declared.class_state.ClassState.TheVariants.{Done, Failed, NotBegun}
use Rattle.jm_world.specs.declared.reply.ReplyKind.TheVariants as kind
use Rattle.jm_world.proofs.Runs.Computed.{computed, pending_of, steps, where_is}
use Rattle.jm_world.proofs.Runs.Words.{kinds_from}

-- f calls itself until no frame can be pushed. The exception is caught first by the 512th frame, whose
-- handler makes other instructions, and with what these throw by the frame below it, and so on.
abbrev at_the_limit : List Instr → List Instr → List ClassParts → List ClassParts
at_the_limit before instructions classes = class (codes "Main") (field 0x0008 (codes "k") (class_of_name (codes "K")) ∷ []) (
    main_method [] (before ++ invokestatic (codes "Main") (codes "f") nothing_to_nothing ∷ return ∷ [])
    ∷ method_catching (handler 0 1 2 (Some (codes "java/lang/StackOverflowError")) ∷ []) 0x0008 (codes "f") nothing_to_nothing (invokestatic (codes "Main") (codes "f") nothing_to_nothing ∷ return
    ∷ pop ∷ instructions ++ return ∷ []) ∷ []) ∷ classes

-- the number of frames and the class of the pending exception
abbrev depth_of : World → ℕ
depth_of w = length (where_is w 1)

abbrev type_in : Option Object → Option ObjectType
type_in None = None
type_in (Some o) = Some o.type

abbrev thrown_in : World → Option ObjectType
thrown_in w = elim (pending_of w 1) [ None ↦ None | Some k ↦ type_in (slice_get w.heap k) ]

abbrev uses_x : Instr
uses_x = getstatic (codes "A") (codes "x") int

-- A is initialized for the first time in the 512th frame: it has no room to begin
abbrev without_initializer : List ClassParts
without_initializer = at_the_limit [] (uses_x ∷ pop ∷ []) (class (codes "A") (field 0x0008 (codes "x") int ∷ []) [] ∷ [])

the_512th_frame_catches : depth_of (computed without_initializer (steps 516 1)) ≡ 512
unfolding computed
the_512th_frame_catches = refl

getstatic_throws_there : thrown_in (computed without_initializer (steps 518 1)) ≡ Some (instance_of (codes "java/lang/StackOverflowError"))
unfolding computed
getstatic_throws_there = refl

and_the_class_has_not_begun : state_of (computed without_initializer (steps 518 1)) (codes "A") ≡ NotBegun
unfolding computed
and_the_class_has_not_begun = refl

one_frame_below_it_is_initialized : state_of (computed without_initializer (steps 525 1)) (codes "A") ≡ Done
unfolding computed
one_frame_below_it_is_initialized = refl

-- A's superclass is not done: there is room for A's initialization and not for that of the superclass
abbrev with_superclass : List ClassParts
with_superclass = at_the_limit [] (uses_x ∷ pop ∷ []) (class_below (codes "S") [] (codes "A") (field 0x0008 (codes "x") int ∷ []) [] ∷ class (codes "S") [] [] ∷ [])

super_throws_without_room : thrown_in (computed with_superclass (steps 524 1)) ≡ Some (instance_of (codes "java/lang/StackOverflowError"))
unfolding computed
super_throws_without_room = refl

and_then_the_class_has_failed : state_of (computed with_superclass (steps 525 1)) (codes "A") ≡ Failed
unfolding computed
and_then_the_class_has_failed = refl

and_its_superclass_has_not_begun : state_of (computed with_superclass (steps 525 1)) (codes "S") ≡ NotBegun
unfolding computed
and_its_superclass_has_not_begun = refl

-- A's <clinit> has no room
abbrev with_initializer : List ClassParts
with_initializer = at_the_limit [] (uses_x ∷ pop ∷ []) (class (codes "A") (field 0x0008 (codes "x") int ∷ []) (method 0x0008 (codes "<clinit>") nothing_to_nothing (return ∷ []) ∷ []) ∷ [])

clinit_throws_without_room : thrown_in (computed with_initializer (steps 525 1)) ≡ Some (instance_of (codes "java/lang/StackOverflowError"))
unfolding computed
clinit_throws_without_room = refl

and_then_its_class_has_failed : state_of (computed with_initializer (steps 526 1)) (codes "A") ≡ Failed
unfolding computed
and_then_its_class_has_failed = refl

-- an abstract method is found to be so before the frames are counted
abbrev calls_abstract : List ClassParts
calls_abstract = at_the_limit (new (codes "K") ∷ putstatic (codes "Main") (codes "k") (class_of_name (codes "K")) ∷ [])
    (getstatic (codes "Main") (codes "k") (class_of_name (codes "K")) ∷ invokeinterface (codes "I") (codes "m") nothing_to_nothing ∷ [])
    (class_below (codes "java/lang/Object") (codes "I" ∷ []) (codes "K") [] [] ∷ interface (codes "I") (abstract_method (codes "m") nothing_to_nothing ∷ []) ∷ [])

an_abstract_method_comes_before_the_depth : thrown_in (computed calls_abstract (steps 525 1)) ≡ Some (instance_of (codes "java/lang/AbstractMethodError"))
unfolding computed
an_abstract_method_comes_before_the_depth = refl

-- another thread has entered K's monitor: the frames are counted first
abbrev calls_synchronized : List ClassParts
calls_synchronized = at_the_limit (new (codes "K") ∷ putstatic (codes "Main") (codes "k") (class_of_name (codes "K")) ∷ new (codes "W") ∷ start ∷ [])
    (getstatic (codes "Main") (codes "k") (class_of_name (codes "K")) ∷ invokevirtual (codes "K") (codes "m") nothing_to_nothing ∷ [])
    (class (codes "K") [] (method 0x0020 (codes "m") nothing_to_nothing (return ∷ []) ∷ [])
    ∷ class_below (codes "java/lang/Thread") [] (codes "W") [] (method 0x0001 (codes "run") nothing_to_nothing (getstatic (codes "Main") (codes "k") (class_of_name (codes "K")) ∷ monitorenter ∷ return ∷ []) ∷ []) ∷ [])

-- the second thread ends with the monitor entered; the first is at its limit
abbrev held_by_another : World
held_by_another = computed calls_synchronized (steps 15 1 ++ steps 4 2 ++ steps 515 1)

the_depth_comes_before_the_monitor : kinds_from held_by_another (steps 1 1) ≡ kind.Done ∷ []
unfolding computed
the_depth_comes_before_the_monitor = refl

and_throws : thrown_in (run_from held_by_another (steps 1 1)) ≡ Some (instance_of (codes "java/lang/StackOverflowError"))
unfolding computed
and_throws = refl

one_frame_below_it_is_blocked : kinds_from held_by_another (steps 6 1) ≡ replicate 5 kind.Done ++ kind.Blocked ∷ []
unfolding computed
one_frame_below_it_is_blocked = refl
