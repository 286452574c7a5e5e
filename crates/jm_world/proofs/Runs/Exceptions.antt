-- Exceptions: handlers in table order, unwinding, and the depth of frames.
use Rattle.std.specs.Prelude.{◌≡◌, List, [], ◌∷◌, Some, None, refl, codes, length}
use Rattle.jm_program.specs.declared.class.ClassParts.{ClassParts}
use Rattle.jm_program.specs.declared.instruction.operation.SmallInt.TheVariants as small
use Rattle.jm_world.specs.World.{live_among, ended_by}
use Rattle.jm_world.specs.Written.{class, main_method, method, handler, field, iconst, idiv, pop, getstatic, invokestatic, out, println, int, return, nothing_to_nothing}
use Rattle.jm_world.proofs.Runs.Computed.{computed, steps, ending_of, where_is, in_method}

-- the range of the first handler ends before the division, and so the second catches
abbrev two_handlers : List ClassParts
two_handlers = class (codes "Main") [] (main_method
    (handler 0 2 4 (Some (codes "java/lang/ArithmeticException")) ∷ handler 0 3 8 None ∷ [])
    (iconst small.One ∷ iconst small.Zero ∷ idiv ∷ return
    ∷ out ∷ iconst small.One ∷ println int ∷ return
    ∷ out ∷ iconst small.Two ∷ println int ∷ return ∷ []) ∷ []) ∷ []

the_end_of_a_range_is_out : (computed two_handlers (steps 20 1)).output ≡ codes "2\n"
unfolding computed
the_end_of_a_range_is_out = refl

-- the exception is the one operand of the handler
the_handler_has_the_exception : where_is (computed two_handlers (steps 7 1)) 1 ≡ in_method (codes "Main") (codes "main") 8 ∷ []
unfolding computed
the_handler_has_the_exception = refl

-- a failed initialization throws ExceptionInInitializerError, and the second use NoClassDefFoundError
abbrev failing : ClassParts
failing = class (codes "A") (field 0x0008 (codes "a") int ∷ [])
    (method 0x0008 (codes "<clinit>") nothing_to_nothing (iconst small.One ∷ iconst small.Zero ∷ idiv ∷ pop ∷ return ∷ []) ∷ [])

abbrev used_twice : List ClassParts
used_twice = class (codes "Main") [] (main_method
    (handler 0 1 3 (Some (codes "java/lang/ExceptionInInitializerError")) ∷ handler 4 5 7 (Some (codes "java/lang/NoClassDefFoundError")) ∷ [])
    (getstatic (codes "A") (codes "a") int ∷ pop ∷ return
    ∷ pop ∷ getstatic (codes "A") (codes "a") int ∷ pop ∷ return
    ∷ pop ∷ out ∷ iconst small.Five ∷ println int ∷ return ∷ []) ∷ []) ∷ failing ∷ []

a_failed_class_stays_failed : (computed used_twice (steps 22 1)).output ≡ codes "5\n"
unfolding computed
a_failed_class_stays_failed = refl

in_twenty_two_events : live_among (computed used_twice (steps 22 1)).threads ≡ 0
unfolding computed
in_twenty_two_events = refl

and_not_in_twenty_one : live_among (computed used_twice (steps 21 1)).threads ≡ 1
unfolding computed
and_not_in_twenty_one = refl

-- an endless recursion: 3 stages, 512 invokes, of which the last throws, and 512 frames unwound
abbrev endless : List ClassParts
endless = class (codes "Main") [] (
    main_method [] (invokestatic (codes "Main") (codes "f") nothing_to_nothing ∷ return ∷ [])
    ∷ method 0x0008 (codes "f") nothing_to_nothing (invokestatic (codes "Main") (codes "f") nothing_to_nothing ∷ return ∷ [])
    ∷ []) ∷ []

endless_recursion_ends : ending_of (computed endless (steps 1027 1)) 1 ≡ Some (ended_by (codes "java/lang/StackOverflowError"))
unfolding computed
endless_recursion_ends = refl

one_event_less_leaves_it : length (where_is (computed endless (steps 1026 1)) 1) ≡ 1
unfolding computed
one_event_less_leaves_it = refl

the_last_frame_is_the_512th : length (where_is (computed endless (steps 515 1)) 1) ≡ 512
unfolding computed
the_last_frame_is_the_512th = refl
