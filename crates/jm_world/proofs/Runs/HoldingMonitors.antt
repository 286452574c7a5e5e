-- Entering and leaving monitors.
use Rattle.std.specs.Prelude.{List, Some, [], codes, refl, replicate, ℕ, ◌++◌, ◌∷◌, ◌≡◌}
use Rattle.jm_program.specs.declared.class.ClassParts.{ClassParts}
use Rattle.jm_program.specs.declared.instruction.operation.SmallInt.TheVariants as small
use Rattle.jm_program.specs.declared.instruction.operation.ShortIndex.TheVariants as short_index
use Rattle.jm_values.specs.declared.value.Value.TheVariants.{Ref}
use Rattle.jm_values.specs.declared.fault.TagFault.TheVariants as fault
use Rattle.jm_world.specs.Monitors.{enter}
use Rattle.jm_world.specs.Next.{blocks, faults, goes}
use Rattle.jm_world.specs.Run.{run_from}
use Rattle.jm_world.specs.World.{World, Monitor, ended_by}
use Rattle.jm_world.specs.Written.{aload, astore, class, class_below, field, getstatic, iconst, int, invokevirtual, main, main_method, method, monitorenter, monitorexit, new, nothing_to_nothing, out, println, putstatic, return, start}
use Rattle.jm_world.specs.declared.reply.ReplyKind.TheVariants as kind
use Rattle.jm_world.proofs.Runs.Computed.{computed, ending_of, in_method, operands, steps, where_is}
use Rattle.jm_world.proofs.Runs.Words.{ends, in_turn, kinds_from, object, printed}

-- a world in which these monitors are held
abbrev holding : List Monitor → World
holding monitors = record (computed (main (return ∷ []) ∷ []) []) { monitors = monitors }

-- one in which the first thread has entered the monitor of object 2 so often
abbrev counted : ℕ → World
counted count = holding (record { object = 2; owner = 1; count = count } ∷ [])

the_count_goes_to_its_limit : enter (counted 2147483646) 1 2 (λ w. goes w) ≡ goes (counted 2147483647)
unfolding computed
the_count_goes_to_its_limit = refl

and_not_past_it : enter (counted 2147483647) 1 2 (λ w. goes w) ≡ faults fault.MonitorCount
unfolding computed
and_not_past_it = refl

another_thread_is_blocked_there : enter (counted 2147483647) 2 2 (λ w. goes w) ≡ blocks
unfolding computed
another_thread_is_blocked_there = refl

-- main enters k's monitor and starts a thread that does the same, and leaves it later
abbrev enters_first : List ClassParts
enters_first = class (codes "Main") (field 0x0008 (codes "k") object ∷ []) (main_method []
    (new (codes "java/lang/Object") ∷ putstatic (codes "Main") (codes "k") object ∷ getstatic (codes "Main") (codes "k") object ∷ monitorenter
    ∷ new (codes "W") ∷ start ∷ getstatic (codes "Main") (codes "k") object ∷ monitorexit ∷ return ∷ []) ∷ [])
    ∷ class_below (codes "java/lang/Thread") [] (codes "W") [] (method 0x0001 (codes "run") nothing_to_nothing
    (getstatic (codes "Main") (codes "k") object ∷ monitorenter ∷ out ∷ iconst small.One ∷ println int ∷ return ∷ []) ∷ []) ∷ []

abbrev both_at_it : World
both_at_it = computed enters_first (steps 13 1 ++ steps 2 2)

monitorenter_is_blocked : kinds_from both_at_it (steps 2 2) ≡ replicate 2 kind.Blocked
unfolding computed
monitorenter_is_blocked = refl

and_changes_nothing : where_is (run_from both_at_it (steps 2 2)) 2 ≡ in_method (codes "W") (codes "run") 1 ∷ []
unfolding computed
and_changes_nothing = refl

its_operand_stays : operands (run_from both_at_it (steps 2 2)) 2 ≡ Ref 2 ∷ []
unfolding computed
its_operand_stays = refl

until_the_owner_leaves : kinds_from (run_from both_at_it (steps 2 1)) (steps 1 2) ≡ kind.Done ∷ []
unfolding computed
until_the_owner_leaves = refl

then_the_other_owns_it : (run_from both_at_it (steps 2 1 ++ steps 1 2)).monitors ≡ record { object = 2; owner = 2; count = 1 } ∷ []
unfolding computed
then_the_other_owns_it = refl

a_monitor_is_waited_for : (in_turn enters_first).output ≡ codes "1\n"
unfolding computed
a_monitor_is_waited_for = refl

abbrev never_entered : List ClassParts
never_entered = main (new (codes "java/lang/Object") ∷ monitorexit ∷ return ∷ []) ∷ []

leaving_what_was_not_entered_throws : ends never_entered ≡ Some (ended_by (codes "java/lang/IllegalMonitorStateException"))
unfolding computed
leaving_what_was_not_entered_throws = refl

-- the second thread leaves what the first has entered
abbrev leaves_anothers : List ClassParts
leaves_anothers = class (codes "Main") (field 0x0008 (codes "k") object ∷ []) (main_method []
    (new (codes "java/lang/Object") ∷ putstatic (codes "Main") (codes "k") object ∷ getstatic (codes "Main") (codes "k") object ∷ monitorenter ∷ new (codes "W") ∷ start ∷ return ∷ []) ∷ [])
    ∷ class_below (codes "java/lang/Thread") [] (codes "W") [] (method 0x0001 (codes "run") nothing_to_nothing
    (getstatic (codes "Main") (codes "k") object ∷ monitorexit ∷ return ∷ []) ∷ []) ∷ []

another_thread_does_not_leave_it : ending_of (in_turn leaves_anothers) 2 ≡ Some (ended_by (codes "java/lang/IllegalMonitorStateException"))
unfolding computed
another_thread_does_not_leave_it = refl

and_it_stays_entered : (in_turn leaves_anothers).monitors ≡ record { object = 2; owner = 1; count = 1 } ∷ []
unfolding computed
and_it_stays_entered = refl

-- a synchronized method of an object whose monitor the thread has entered
abbrev entered_again : List ClassParts
entered_again = class (codes "Main") [] (
    main_method [] (
    new (codes "Main") ∷ astore short_index.One ∷ aload short_index.One ∷ monitorenter ∷ aload short_index.One
    ∷ invokevirtual (codes "Main") (codes "f") nothing_to_nothing ∷ aload short_index.One ∷ monitorexit
    ∷ out ∷ iconst small.Five ∷ println int ∷ return ∷ [])
    ∷ method 0x0020 (codes "f") nothing_to_nothing (return ∷ []) ∷ []) ∷ []

a_synchronized_method_enters_again : printed entered_again ≡ codes "5\n"
unfolding computed
a_synchronized_method_enters_again = refl

and_counts_two : (computed entered_again (steps 9 1)).monitors ≡ record { object = 2; owner = 1; count = 2 } ∷ []
unfolding computed
and_counts_two = refl

-- the monitors of two objects are held in the order of the objects, in whichever they are entered
abbrev the_later_first : List ClassParts
the_later_first = main (new (codes "java/lang/Object") ∷ astore short_index.One ∷ new (codes "java/lang/Object") ∷ astore short_index.Two
    ∷ aload short_index.Two ∷ monitorenter ∷ aload short_index.One ∷ monitorenter ∷ aload short_index.Two ∷ monitorexit ∷ return ∷ []) ∷ []

the_later_is_held : (computed the_later_first (steps 9 1)).monitors ≡ record { object = 3; owner = 1; count = 1 } ∷ []
unfolding computed
the_later_is_held = refl

the_earlier_comes_before_it : (computed the_later_first (steps 11 1)).monitors ≡ record { object = 2; owner = 1; count = 1 } ∷ record { object = 3; owner = 1; count = 1 } ∷ []
unfolding computed
the_earlier_comes_before_it = refl

and_stays_when_the_later_is_left : (computed the_later_first (steps 13 1)).monitors ≡ record { object = 2; owner = 1; count = 1 } ∷ []
unfolding computed
and_stays_when_the_later_is_left = refl

abbrev the_earlier_first : List ClassParts
the_earlier_first = main (new (codes "java/lang/Object") ∷ astore short_index.One ∷ new (codes "java/lang/Object") ∷ astore short_index.Two
    ∷ aload short_index.One ∷ monitorenter ∷ aload short_index.Two ∷ monitorenter ∷ aload short_index.One ∷ monitorexit ∷ return ∷ []) ∷ []

the_later_comes_behind_it : (computed the_earlier_first (steps 11 1)).monitors ≡ record { object = 2; owner = 1; count = 1 } ∷ record { object = 3; owner = 1; count = 1 } ∷ []
unfolding computed
the_later_comes_behind_it = refl

and_stays_when_the_earlier_is_left : (computed the_earlier_first (steps 13 1)).monitors ≡ record { object = 3; owner = 1; count = 1 } ∷ []
unfolding computed
and_stays_when_the_earlier_is_left = refl

another_threads_stands_in_the_order_too : enter (holding (record { object = 2; owner = 1; count = 1 } ∷ record { object = 4; owner = 1; count = 2 } ∷ [])) 2 3 (λ w. goes w)
    ≡ goes (holding (record { object = 2; owner = 1; count = 1 } ∷ record { object = 3; owner = 2; count = 1 } ∷ record { object = 4; owner = 1; count = 2 } ∷ []))
unfolding computed
another_threads_stands_in_the_order_too = refl
