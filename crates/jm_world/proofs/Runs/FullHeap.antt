-- A full heap stops the world wherever an object is made, before anything is changed.
use Rattle.std.specs.Prelude.{List, None, Some, [], codes, refl, ◌∷◌, ◌≡◌}
use Rattle.jm_program.specs.declared.class.ClassParts.{ClassParts}
use Rattle.jm_program.specs.declared.instruction.operation.SmallInt.TheVariants as small
use Rattle.jm_program.specs.declared.instruction.operation.ShortIndex.TheVariants as short_index
use Rattle.jm_values.specs.declared.fault.TagFault.TheVariants as fault
use Rattle.jm_world.specs.World.{ended_by, returned, state_of}
use Rattle.jm_world.specs.Written.{aload, class, field, iconst, idiv, int, invokevirtual, long, main, main_method, method, monitorexit, new, nothing_to_nothing, pop, return, taking}
use Rattle.jm_world.specs.declared.class_state.ClassState.TheVariants.{Failed, InProgress}
use Rattle.jm_world.specs.declared.stop.Stop.TheVariants as stop
use Rattle.jm_world.proofs.Runs.Computed.{computed, ending_of, in_method, pending_of, where_is}
use Rattle.jm_world.proofs.Runs.Words.{array_of, method_within, string, within}

-- 5 cells are there from the load, and an exception takes 2
abbrev divides : List ClassParts
divides = main (iconst small.One ∷ iconst small.Zero ∷ idiv ∷ pop ∷ return ∷ []) ∷ []

no_room_for_an_exception : (within divides 5).stop ≡ Some stop.HeapFull
unfolding computed
no_room_for_an_exception = refl

nor_in_six_cells : (within divides 6).stop ≡ Some stop.HeapFull
unfolding computed
nor_in_six_cells = refl

none_is_pending : pending_of (within divides 5) 1 ≡ None
unfolding computed
none_is_pending = refl

and_the_thread_stays : where_is (within divides 5) 1 ≡ in_method (codes "Main") (codes "main") 2 ∷ []
unfolding computed
and_the_thread_stays = refl

seven_cells_are_room : ending_of (within divides 7) 1 ≡ Some (ended_by (codes "java/lang/ArithmeticException"))
unfolding computed
seven_cells_are_room = refl

-- the first exception is reached while the next is made: 7 cells and 2
abbrev fails_to_begin : List ClassParts
fails_to_begin = class (codes "Main") (field 0x0008 (codes "x") int ∷ []) (
    main_method [] (return ∷ [])
    ∷ method 0x0008 (codes "<clinit>") nothing_to_nothing (iconst small.One ∷ iconst small.Zero ∷ idiv ∷ pop ∷ return ∷ []) ∷ []) ∷ []

no_room_for_the_error : (within fails_to_begin 8).stop ≡ Some stop.HeapFull
unfolding computed
no_room_for_the_error = refl

the_class_is_still_in_progress : state_of (within fails_to_begin 8) (codes "Main") ≡ InProgress 1
unfolding computed
the_class_is_still_in_progress = refl

the_exception_is_still_pending : pending_of (within fails_to_begin 8) 1 ≡ Some 2
unfolding computed
the_exception_is_still_pending = refl

nine_cells_are_room : ending_of (within fails_to_begin 9) 1 ≡ Some (ended_by (codes "java/lang/ExceptionInInitializerError"))
unfolding computed
nine_cells_are_room = refl

and_the_class_has_failed : state_of (within fails_to_begin 9) (codes "Main") ≡ Failed
unfolding computed
and_the_class_has_failed = refl

-- f has left its monitor: its exception is replaced as its frame is dropped
abbrev leaves_twice : List ClassParts
leaves_twice = class (codes "Main") [] (
    main_method [] (new (codes "Main") ∷ invokevirtual (codes "Main") (codes "f") nothing_to_nothing ∷ return ∷ [])
    ∷ method 0x0020 (codes "f") nothing_to_nothing (aload short_index.Zero ∷ monitorexit ∷ iconst small.One ∷ iconst small.Zero ∷ idiv ∷ return ∷ []) ∷ []) ∷ []

no_room_for_the_replacing_exception : (within leaves_twice 10).stop ≡ Some stop.HeapFull
unfolding computed
no_room_for_the_replacing_exception = refl

the_replaced_one_is_still_pending : pending_of (within leaves_twice 10) 1 ≡ Some 3
unfolding computed
the_replaced_one_is_still_pending = refl

in_the_frame_of_the_method : where_is (within leaves_twice 10) 1 ≡ in_method (codes "Main") (codes "f") 4 ∷ in_method (codes "Main") (codes "main") 1 ∷ []
unfolding computed
in_the_frame_of_the_method = refl

eleven_cells_are_room : ending_of (within leaves_twice 11) 1 ≡ Some (ended_by (codes "java/lang/IllegalMonitorStateException"))
unfolding computed
eleven_cells_are_room = refl

-- an object of one field takes 3 cells, also where the field is a long
abbrev makes_one : List ClassParts
makes_one = class (codes "Main") (field 0x0000 (codes "f") long ∷ []) (main_method [] (new (codes "Main") ∷ pop ∷ return ∷ []) ∷ []) ∷ []

no_room_for_an_object : (within makes_one 7).stop ≡ Some stop.HeapFull
unfolding computed
no_room_for_an_object = refl

eight_cells_are_room : ending_of (within makes_one 8) 1 ≡ Some returned
unfolding computed
eight_cells_are_room = refl

-- a result without room comes before the heap
abbrev pushes_none : List ClassParts
pushes_none = class (codes "Main") [] (method_within 0 8 [] 0x0009 (codes "main") (taking (array_of string)) (new (codes "Main") ∷ return ∷ []) ∷ []) ∷ []

overflow_comes_before_a_full_heap : (within pushes_none 5).stop ≡ Some (stop.TagFault fault.Overflow)
unfolding computed
overflow_comes_before_a_full_heap = refl
