-- What schedules spell, and what the round robin chooses.
use Rattle.std.specs.Prelude.{◌≡◌, ℕ, ◌++◌, List, [], ◌∷◌, Some, None, Result, Ok, Err, refl, codes, length, replicate}
use Rattle.jm_program.specs.declared.class.ClassParts.{ClassParts}
use Rattle.jm_program.specs.declared.instruction.operation.SmallInt.TheVariants as small
use Rattle.jm_world.specs.World.{World, live_among}
use Rattle.jm_world.specs.Loading.{loaded_world}
use Rattle.jm_world.specs.Schedules.{schedule, record_entries}
use Rattle.jm_world.specs.RoundRobin.{robin, worker_turn}
use Rattle.jm_world.specs.Run.{run_from}
use Rattle.jm_world.specs.Written.{main, class_below, method, iconst, iadd, out, println, start, int, return, nothing_to_nothing, new}
use Rattle.jm_world.specs.declared.event.Event.{Event}
use Rattle.jm_world.specs.declared.event.Event.TheVariants.{Step, Minor, Full}
use Rattle.jm_world.specs.declared.reply.Reply.{Reply}
use Rattle.jm_world.specs.declared.reply.ReplyKind.TheVariants as kind
use Rattle.jm_world.proofs.Runs.Computed.{computed}

lines_spell_events : schedule (codes "# three lines\nt 1 x 3\n\nminor\nt 007\nfull") ≡ Ok (Step 1 ∷ Step 1 ∷ Step 1 ∷ Minor ∷ Step 7 ∷ Full ∷ [])
unfolding computed
lines_spell_events = refl

a_record_is_a_schedule : schedule (codes "t 1 @0 done\nminor @15 done\n") ≡ Ok (Step 1 ∷ Minor ∷ [])
unfolding computed
a_record_is_a_schedule = refl

the_largest_number : schedule (codes "t 18446744073709551615") ≡ Ok (Step 18446744073709551615 ∷ [])
unfolding computed
the_largest_number = refl

-- the lines that are strange, each behind a good one
abbrev strange : List ℕ → Result (List Event) ℕ
strange line = schedule (codes "t 1\n" ++ line)

one_more : strange (codes "t 18446744073709551616") ≡ Err 2
unfolding computed
one_more = refl

no_count : strange (codes "t 1 x 0") ≡ Err 2
unfolding computed
no_count = refl

a_count_too_large : strange (codes "t 1 x 1000001") ≡ Err 2
unfolding computed
a_count_too_large = refl

a_capital : strange (codes "T 1") ≡ Err 2
unfolding computed
a_capital = refl

two_blanks : strange (codes "t  1") ≡ Err 2
unfolding computed
two_blanks = refl

minor_is_made_once : strange (codes "minor x 2") ≡ Err 2
unfolding computed
minor_is_made_once = refl

a_carriage_return : strange (codes "t 1\r\n") ≡ Err 2
unfolding computed
a_carriage_return = refl

a_strange_kind : strange (codes "t 1 @0 doen") ≡ Err 2
unfolding computed
a_strange_kind = refl

a_seat_past_fifteen : strange (codes "t 1 @16 done") ≡ Err 2
unfolding computed
a_seat_past_fifteen = refl

a_record_has_both_words : record_entries (codes "t 1 @0 done\nt 1\n") ≡ Err 2
unfolding computed
a_record_has_both_words = refl

a_record_has_entries : record_entries (codes "t 2 @3 blocked\n") ≡ Ok (record { line = 1; seat = 3; event = Step 2; kind = kind.Blocked } ∷ [])
unfolding computed
a_record_has_entries = refl

-- the round robin over the sum: as many events as its steps allow
abbrev the_sum : List ClassParts
the_sum = main (out ∷ iconst small.Two ∷ iconst small.Three ∷ iadd ∷ println int ∷ return ∷ []) ∷ []

abbrev robin_over : List ClassParts → ℕ → ℕ → List Event
robin_over program limit quantum = robin (loaded_world program 65536) limit quantum

nine_are_all : length (robin_over the_sum 20 1) ≡ 9
unfolding computed
nine_are_all = refl

eight_are_asked_for : length (robin_over the_sum 8 1) ≡ 8
unfolding computed
eight_are_asked_for = refl

-- two threads that print 1 and 2: in turn, or two events at a time
abbrev printing : List ClassParts
printing = main (new (codes "W") ∷ start ∷ new (codes "W") ∷ start ∷ return ∷ [])
    ∷ class_below (codes "java/lang/Thread") [] (codes "W") [] (method 0x0001 (codes "run") nothing_to_nothing
    (out ∷ iconst small.One ∷ println int ∷ out ∷ iconst small.Two ∷ println int ∷ return ∷ []) ∷ []) ∷ []

abbrev printed : ℕ → World
printed quantum = run_from (loaded_world printing 65536) (robin_over printing 100 quantum)

in_turn : (printed 1).output ≡ codes "1\n1\n2\n2\n"
unfolding computed
in_turn = refl

one_after_the_other : (printed 100).output ≡ codes "1\n2\n1\n2\n"
unfolding computed
one_after_the_other = refl

all_end : live_among (printed 7).threads ≡ 0
unfolding computed
all_end = refl

there_are_twenty_eight_events : length (robin_over printing 100 3) ≡ 28
unfolding computed
there_are_twenty_eight_events = refl

a_thread_made_in_a_pass_takes_part : robin_over printing 12 1 ≡ replicate 9 (Step 1) ++ Step 2 ∷ Step 1 ∷ Step 2 ∷ []
unfolding computed
a_thread_made_in_a_pass_takes_part = refl

-- a quantum of two: the second thread is made by the ninth event, the first of a turn
two_events_a_turn : robin_over printing 16 2 ≡ replicate 10 (Step 1) ++ replicate 2 (Step 2) ++ replicate 2 (Step 1) ++ replicate 2 (Step 2)
unfolding computed
two_events_a_turn = refl

-- a worker begins at thread 1 and goes round all threads, until none is live
abbrev said : ℕ → ℕ → Reply
said made live = record { kind = kind.Done; made = made; live = live }

a_worker_goes_round : worker_turn (said 1 1 ∷ said 2 2 ∷ said 3 2 ∷ said 3 1 ∷ []) ≡ Some 1
a_worker_goes_round = refl

a_worker_stops : worker_turn (said 1 1 ∷ said 2 0 ∷ []) ≡ None
a_worker_stops = refl
