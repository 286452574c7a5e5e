-- Threads and monitors, step by step.
use Rattle.std.specs.Prelude.{◌≡◌, ℕ, List, [], ◌∷◌, ◌++◌, Some, refl, codes}
use Rattle.jm_program.specs.declared.class.ClassParts.{ClassParts}
use Rattle.jm_program.specs.declared.instruction.symbolic.Instr.{Instr}
use Rattle.jm_program.specs.declared.instruction.operation.SmallInt.TheVariants as small
use Rattle.jm_program.specs.declared.instruction.operation.ShortIndex.TheVariants as short
use Rattle.jm_world.specs.World.{World, Monitor, live_among, returned, ended_by, reach}
use Rattle.jm_world.specs.Run.{replies_from}
use Rattle.jm_world.specs.Written.{main, class, class_below, main_method, method, field, iconst, idiv, pop, dup, getstatic, putstatic, invokevirtual, start, class_of_name, return, nothing_to_nothing, new, aload, astore, aconst_null, monitorexit}
use Rattle.jm_world.specs.declared.event.Event.TheVariants.{Step}
use Rattle.jm_world.specs.declared.reply.Reply.{Reply}
use Rattle.jm_world.specs.declared.reply.ReplyKind.{ReplyKind}
use Rattle.jm_world.specs.declared.reply.ReplyKind.TheVariants as kind
use Rattle.jm_world.proofs.Runs.Computed.{computed, steps, ending_of, pending_of, where_is, in_method}

-- two threads call a synchronized method of one object
abbrev worker : List Instr → ClassParts
worker instructions = class_below (codes "java/lang/Thread") [] (codes "W") [] (method 0x0001 (codes "run") nothing_to_nothing instructions ∷ [])

abbrev calls_f : ClassParts
calls_f = worker (getstatic (codes "Main") (codes "k") (class_of_name (codes "K")) ∷ invokevirtual (codes "K") (codes "f") nothing_to_nothing ∷ return ∷ [])

abbrev starts_two : ClassParts
starts_two = class (codes "Main") (field 0x0008 (codes "k") (class_of_name (codes "K")) ∷ []) (main_method []
    (new (codes "K") ∷ putstatic (codes "Main") (codes "k") (class_of_name (codes "K"))
    ∷ new (codes "W") ∷ start ∷ new (codes "W") ∷ start ∷ return ∷ []) ∷ [])

abbrev synchronized_f : List Instr → ClassParts
synchronized_f instructions = class (codes "K") [] (method 0x0020 (codes "f") nothing_to_nothing instructions ∷ [])

abbrev f_throws : List ClassParts
f_throws = starts_two ∷ calls_f ∷ synchronized_f (iconst small.One ∷ iconst small.Zero ∷ idiv ∷ pop ∷ return ∷ []) ∷ []

abbrev held : ℕ → List Monitor
held owner = record { object = 2; owner = owner; count = 1 } ∷ []

-- the kind of the last reply
abbrev last_kind : List Reply → ReplyKind
last_kind [] = kind.Done
last_kind (r ∷ []) = r.kind
last_kind (r ∷ s ∷ rs) = last_kind (s ∷ rs)

eighteen_events_end_main : ending_of (computed f_throws (steps 18 1)) 1 ≡ Some returned
unfolding computed
eighteen_events_end_main = refl

the_second_thread_enters : (computed f_throws (steps 18 1 ++ steps 3 2)).monitors ≡ held 2
unfolding computed
the_second_thread_enters = refl

the_third_is_blocked : last_kind (replies_from (computed f_throws (steps 18 1 ++ steps 3 2)) (steps 3 3)) ≡ kind.Blocked
unfolding computed
the_third_is_blocked = refl

and_stays_where_it_is : where_is (computed f_throws (steps 18 1 ++ steps 3 2 ++ steps 9 3)) 3 ≡ in_method (codes "W") (codes "run") 1 ∷ []
unfolding computed
and_stays_where_it_is = refl

abbrev unwound : World
unwound = computed f_throws (steps 18 1 ++ steps 3 2 ++ steps 3 3 ++ steps 4 2)

unwinding_leaves_the_monitor : unwound.monitors ≡ []
unfolding computed
unwinding_leaves_the_monitor = refl

unwinding_goes_to_the_caller : where_is unwound 2 ≡ in_method (codes "W") (codes "run") 1 ∷ []
unfolding computed
unwinding_goes_to_the_caller = refl

the_exception_is_pending : pending_of unwound 2 ≡ Some 5
unfolding computed
the_exception_is_pending = refl

abbrev then_the_third : World
then_the_third = computed f_throws (steps 18 1 ++ steps 3 2 ++ steps 3 3 ++ steps 4 2 ++ steps 1 3)

then_the_third_enters : then_the_third.monitors ≡ held 3
unfolding computed
then_the_third_enters = refl

and_stands_in_f : where_is then_the_third 3 ≡ in_method (codes "K") (codes "f") 0 ∷ in_method (codes "W") (codes "run") 1 ∷ []
unfolding computed
and_stands_in_f = refl

-- a method that clears its local 0 still leaves the monitor of its receiver
abbrev f_clears : List ClassParts
f_clears = starts_two ∷ calls_f ∷ synchronized_f (aconst_null ∷ astore short.Zero ∷ return ∷ []) ∷ []

the_frame_keeps_its_receiver : (computed f_clears (steps 18 1 ++ steps 6 2)).monitors ≡ []
unfolding computed
the_frame_keeps_its_receiver = refl

and_both_end : live_among (computed f_clears (steps 18 1 ++ steps 7 2 ++ steps 7 3)).threads ≡ 0
unfolding computed
and_both_end = refl

-- a synchronized method that has left its monitor itself throws at its return, stays there, and
-- throws anew as its frame is dropped
abbrev f_leaves : List ClassParts
f_leaves = starts_two ∷ calls_f ∷ synchronized_f (aload short.Zero ∷ monitorexit ∷ return ∷ []) ∷ []

a_return_without_the_monitor_stays : where_is (computed f_leaves (steps 18 1 ++ steps 6 2)) 2 ≡ in_method (codes "K") (codes "f") 2 ∷ in_method (codes "W") (codes "run") 1 ∷ []
unfolding computed
a_return_without_the_monitor_stays = refl

and_throws : pending_of (computed f_leaves (steps 18 1 ++ steps 6 2)) 2 ≡ Some 5
unfolding computed
and_throws = refl

and_throws_anew : pending_of (computed f_leaves (steps 18 1 ++ steps 7 2)) 2 ≡ Some 6
unfolding computed
and_throws_anew = refl

so_the_thread_ends : ending_of (computed f_leaves (steps 18 1 ++ steps 8 2)) 2 ≡ Some (ended_by (codes "java/lang/IllegalMonitorStateException"))
unfolding computed
so_the_thread_ends = refl

-- a second start of one object throws
abbrev started_twice : List ClassParts
started_twice = main (new (codes "W") ∷ dup ∷ start ∷ start ∷ return ∷ []) ∷ worker (return ∷ []) ∷ []

a_second_start_throws : ending_of (computed started_twice (steps 12 1)) 1 ≡ Some (ended_by (codes "java/lang/IllegalThreadStateException"))
unfolding computed
a_second_start_throws = refl

and_makes_no_thread : live_among (computed started_twice (steps 12 1 ++ steps 2 2)).threads ≡ 0
unfolding computed
and_makes_no_thread = refl

-- an ended thread's object is not reachable, a live one's is
a_live_threads_object_is_reachable : reach (computed started_twice (steps 12 1)) ≡ 0 ∷ 2 ∷ []
unfolding computed
a_live_threads_object_is_reachable = refl

an_ended_ones_is_not : reach (computed started_twice (steps 12 1 ++ steps 2 2)) ≡ 0 ∷ []
unfolding computed
an_ended_ones_is_not = refl

-- replies count the threads made and those that have not ended
the_replies_of_thread_two : replies_from (computed started_twice (steps 12 1)) (Step 2 ∷ Step 2 ∷ Step 2 ∷ Step 3 ∷ []) ≡
    record { kind = kind.Done; made = 2; live = 1 } ∷ record { kind = kind.Done; made = 2; live = 0 }
    ∷ record { kind = kind.Ended; made = 2; live = 0 } ∷ record { kind = kind.None; made = 2; live = 0 } ∷ []
unfolding computed
the_replies_of_thread_two = refl
