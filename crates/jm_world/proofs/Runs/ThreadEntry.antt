-- How threads are made, begin and end.
use Rattle.std.specs.Prelude.{List, Some, [], codes, false, refl, replicate, true, ℕ, ◌++◌, ◌∷◌, ◌≡◌}
use Rattle.jm_program.specs.declared.class.ClassParts.{ClassParts}
use Rattle.jm_program.specs.declared.class.Method.{Method}
use Rattle.jm_program.specs.declared.instruction.operation.SmallInt.TheVariants as small
use Rattle.jm_program.specs.declared.instruction.operation.ShortIndex.TheVariants as short_index
use Rattle.jm_world.specs.Run.{replies_from, run_from}
use Rattle.jm_world.specs.World.{World, ended_by, reach, returned}
use Rattle.jm_world.specs.Written.{abstract_method, aconst_null, aload, astore, class_below, dup, iconst, idiv, int, invokespecial, invokevirtual, main, method, monitorenter, monitorexit, new, nothing_to_nothing, out, pop, println, return, start}
use Rattle.jm_world.specs.declared.reply.ReplyKind.TheVariants as kind
use Rattle.jm_world.proofs.Runs.Computed.{at_entry, computed, ending_of, in_method, pending_of, steps, where_is}
use Rattle.jm_world.proofs.Runs.Words.{abstract_class, ends, in_turn, kinds_from, printed, reaches}

-- main starts one thread of a class W
abbrev starts : ClassParts → List ClassParts
starts w = main (new w.name ∷ start ∷ return ∷ []) ∷ w ∷ []

abbrev runs_with : List Method → ClassParts
runs_with methods = class_below (codes "java/lang/Thread") [] (codes "W") [] methods

-- an object of Thread itself: its run does nothing
abbrev plain_thread : List ClassParts
plain_thread = main (new (codes "java/lang/Thread") ∷ start ∷ return ∷ []) ∷ []

the_run_of_thread_ends_at_once : kinds_from (computed plain_thread (steps 6 1)) (steps 2 2) ≡ kind.Done ∷ kind.Ended ∷ []
unfolding computed
the_run_of_thread_ends_at_once = refl

and_returns : ending_of (in_turn plain_thread) 2 ≡ Some returned
unfolding computed
and_returns = refl

-- a run that is private, or static, is passed over
abbrev hidden_run : ℕ → List ClassParts
hidden_run flags = starts (runs_with (method flags (codes "run") nothing_to_nothing (out ∷ iconst small.One ∷ println int ∷ return ∷ []) ∷ []))

a_run_is_called : (in_turn (hidden_run 0x0001)).output ≡ codes "1\n"
unfolding computed
a_run_is_called = refl

a_private_run_is_passed_over : (in_turn (hidden_run 0x0002)).output ≡ []
unfolding computed
a_private_run_is_passed_over = refl

and_so_the_thread_ends : ending_of (in_turn (hidden_run 0x0002)) 2 ≡ Some returned
unfolding computed
and_so_the_thread_ends = refl

a_static_run_is_passed_over : (in_turn (hidden_run 0x0008)).output ≡ []
unfolding computed
a_static_run_is_passed_over = refl

-- a run that is abstract: W's superclass declares it
abbrev abstract_run : List ClassParts
abstract_run = main (new (codes "W") ∷ start ∷ return ∷ []) ∷ class_below (codes "A") [] (codes "W") [] []
    ∷ abstract_class (class_below (codes "java/lang/Thread") [] (codes "A") [] (abstract_method (codes "run") nothing_to_nothing ∷ [])) ∷ []

-- W and A are initialized in seven events
abbrev started_abstract : World
started_abstract = computed abstract_run (steps 12 1)

an_abstract_run_throws : pending_of (run_from started_abstract (steps 1 2)) 2 ≡ Some 3
unfolding computed
an_abstract_run_throws = refl

its_entry_stays : where_is (run_from started_abstract (steps 1 2)) 2 ≡ at_entry ∷ []
unfolding computed
its_entry_stays = refl

and_ends_the_thread_in_two_events : ending_of (run_from started_abstract (steps 2 2)) 2 ≡ Some (ended_by (codes "java/lang/AbstractMethodError"))
unfolding computed
and_ends_the_thread_in_two_events = refl

an_event_of_it_is_answered_ended : replies_from (run_from started_abstract (steps 2 2)) (steps 1 2) ≡ record { kind = kind.Ended; made = 2; live = 1 } ∷ []
unfolding computed
an_event_of_it_is_answered_ended = refl

its_object_is_not_reached : reaches (run_from started_abstract (steps 2 2)) 2 ≡ false
unfolding computed
its_object_is_not_reached = refl

while_it_is_live_it_is : reaches (run_from started_abstract (steps 1 2)) 2 ≡ true
unfolding computed
while_it_is_live_it_is = refl

no_thread_has_the_number_zero : replies_from started_abstract (steps 1 0) ≡ record { kind = kind.None; made = 2; live = 2 } ∷ []
unfolding computed
no_thread_has_the_number_zero = refl

-- main holds the monitor of the object whose run is synchronized
abbrev synchronized_run : List ClassParts
synchronized_run = main (new (codes "W") ∷ astore short_index.One ∷ aload short_index.One ∷ monitorenter ∷ aload short_index.One ∷ start ∷ aload short_index.One ∷ monitorexit ∷ return ∷ [])
    ∷ runs_with (method 0x0021 (codes "run") nothing_to_nothing (out ∷ iconst small.One ∷ println int ∷ return ∷ []) ∷ []) ∷ []

abbrev started_held : World
started_held = computed synchronized_run (steps 13 1)

a_synchronized_run_is_blocked : kinds_from started_held (steps 2 2) ≡ replicate 2 kind.Blocked
unfolding computed
a_synchronized_run_is_blocked = refl

and_keeps_its_entry : where_is (run_from started_held (steps 2 2)) 2 ≡ at_entry ∷ []
unfolding computed
and_keeps_its_entry = refl

then_it_enters : where_is (run_from started_held (steps 2 1 ++ steps 1 2)) 2 ≡ in_method (codes "W") (codes "run") 0 ∷ []
unfolding computed
then_it_enters = refl

and_holds_the_monitor : (run_from started_held (steps 2 1 ++ steps 1 2)).monitors ≡ record { object = 2; owner = 2; count = 1 } ∷ []
unfolding computed
and_holds_the_monitor = refl

which_its_return_leaves : (run_from started_held (steps 2 1 ++ steps 5 2)).monitors ≡ []
unfolding computed
which_its_return_leaves = refl

a_synchronized_run_is_called : (in_turn synchronized_run).output ≡ codes "1\n"
unfolding computed
a_synchronized_run_is_called = refl

-- the thread has ended when its object is started again
abbrev started_again : List ClassParts
started_again = main (new (codes "java/lang/Thread") ∷ dup ∷ start ∷ start ∷ return ∷ []) ∷ []

an_ended_thread_is_not_started_again : ending_of (computed started_again (steps 6 1 ++ steps 1 2 ++ steps 2 1)) 1 ≡
    Some (ended_by (codes "java/lang/IllegalThreadStateException"))
unfolding computed
an_ended_thread_is_not_started_again = refl

and_no_thread_is_made : replies_from (computed started_again (steps 6 1 ++ steps 1 2 ++ steps 2 1)) (steps 1 2) ≡ record { kind = kind.Ended; made = 2; live = 0 } ∷ []
unfolding computed
and_no_thread_is_made = refl

-- run that main calls itself makes no thread
abbrev run_by_hand : List ClassParts
run_by_hand = main (new (codes "W") ∷ invokevirtual (codes "W") (codes "run") nothing_to_nothing ∷ out ∷ iconst small.Two ∷ println int ∷ return ∷ [])
    ∷ class_below (codes "java/lang/Thread") [] (codes "W") [] (method 0x0001 (codes "run") nothing_to_nothing (out ∷ iconst small.One ∷ println int ∷ return ∷ []) ∷ []) ∷ []

run_is_a_method_like_others : printed run_by_hand ≡ codes "1\n2\n"
unfolding computed
run_is_a_method_like_others = refl

abbrev super_run : List ClassParts
super_run = main (new (codes "W") ∷ invokevirtual (codes "W") (codes "run") nothing_to_nothing ∷ out ∷ iconst small.Two ∷ println int ∷ return ∷ [])
    ∷ class_below (codes "java/lang/Thread") [] (codes "W") [] (method 0x0001 (codes "run") nothing_to_nothing (aload short_index.Zero
    ∷ invokespecial (codes "java/lang/Thread") (codes "run") nothing_to_nothing ∷ return ∷ []) ∷ []) ∷ []

the_run_of_thread_does_nothing : printed super_run ≡ codes "2\n"
unfolding computed
the_run_of_thread_does_nothing = refl

abbrev start_null : List ClassParts
start_null = main (aconst_null ∷ start ∷ return ∷ []) ∷ []

start_of_null_throws : ends start_null ≡ Some (ended_by (codes "java/lang/NullPointerException"))
unfolding computed
start_of_null_throws = refl

-- a thread that ends by an exception leaves the other as it is
abbrev run_divides : List ClassParts
run_divides = starts (runs_with (method 0x0001 (codes "run") nothing_to_nothing (iconst small.One ∷ iconst small.Zero ∷ idiv ∷ pop ∷ return ∷ []) ∷ []))

a_thread_ends_by_its_exception : ending_of (in_turn run_divides) 2 ≡ Some (ended_by (codes "java/lang/ArithmeticException"))
unfolding computed
a_thread_ends_by_its_exception = refl

and_the_first_returns : ending_of (in_turn run_divides) 1 ≡ Some returned
unfolding computed
and_the_first_returns = refl

and_nothing_of_it_is_reached : reach (in_turn run_divides) ≡ 0 ∷ []
unfolding computed
and_nothing_of_it_is_reached = refl
