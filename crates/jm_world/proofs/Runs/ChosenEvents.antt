-- More lines of schedules, and where rounds end.
use Rattle.std.specs.Prelude.{Err, List, None, Ok, Result, Some, [], codes, refl, replicate, ℕ, ◌++◌, ◌∷◌, ◌≡◌}
use Rattle.jm_program.specs.declared.class.ClassParts.{ClassParts}
use Rattle.jm_program.specs.declared.instruction.operation.SmallInt.TheVariants as small
use Rattle.jm_program.specs.declared.instruction.operation.SmallLong.TheVariants as small_long
use Rattle.jm_world.specs.Loading.{loaded_world}
use Rattle.jm_world.specs.RoundRobin.{robin, worker_turn}
use Rattle.jm_world.specs.Schedules.{record_entries, schedule}
use Rattle.jm_world.specs.Written.{iadd, iconst, main, return}
use Rattle.jm_world.specs.declared.event.Event.{Event}
use Rattle.jm_world.specs.declared.event.Event.TheVariants.{Full, Minor, Step}
use Rattle.jm_world.specs.declared.reply.Reply.{Reply}
use Rattle.jm_world.specs.declared.reply.ReplyKind.{ReplyKind}
use Rattle.jm_world.specs.declared.reply.ReplyKind.TheVariants as kind
use Rattle.jm_world.proofs.Runs.Computed.{computed}
use Rattle.jm_world.proofs.Runs.Words.{lconst}

-- the line that is strange, behind a good one
abbrev strange : List ℕ → Result (List Event) ℕ
strange line = schedule (codes "t 1\n" ++ line)

a_leading_blank : strange (codes " t 1") ≡ Err 2
unfolding computed
a_leading_blank = refl

a_trailing_blank : strange (codes "t 1 ") ≡ Err 2
unfolding computed
a_trailing_blank = refl

a_blank_line : strange (codes " ") ≡ Err 2
unfolding computed
a_blank_line = refl

a_count_and_a_mark : strange (codes "t 1 x 2 @0 done") ≡ Err 2
unfolding computed
a_count_and_a_mark = refl

a_seat_without_a_kind : strange (codes "t 1 @0") ≡ Err 2
unfolding computed
a_seat_without_a_kind = refl

a_kind_without_a_seat : strange (codes "t 1 done") ≡ Err 2
unfolding computed
a_kind_without_a_seat = refl

no_thread : strange (codes "t") ≡ Err 2
unfolding computed
no_thread = refl

a_signed_number : strange (codes "t -1") ≡ Err 2
unfolding computed
a_signed_number = refl

an_unknown_word : strange (codes "major") ≡ Err 2
unfolding computed
an_unknown_word = refl

a_comment_beyond_ascii : strange (35 ∷ 0xC3 ∷ 0xA9 ∷ []) ≡ Err 2
unfolding computed
a_comment_beyond_ascii = refl

a_comment_in_ascii : strange (codes "#~") ≡ Ok (Step 1 ∷ [])
unfolding computed
a_comment_in_ascii = refl

an_empty_schedule : schedule [] ≡ Ok []
unfolding computed
an_empty_schedule = refl

each_kind_is_read : record_entries (codes "t 1 @0 done\nminor @1 blocked\nfull @2 ended\nt 2 @3 none\nt 3 @15 stopped\n") ≡
    Ok (record { line = 1; seat = 0; event = Step 1; kind = kind.Done } ∷ record { line = 2; seat = 1; event = Minor; kind = kind.Blocked }
    ∷ record { line = 3; seat = 2; event = Full; kind = kind.Ended } ∷ record { line = 4; seat = 3; event = Step 2; kind = kind.None }
    ∷ record { line = 5; seat = 15; event = Step 3; kind = kind.Stopped } ∷ [])
unfolding computed
each_kind_is_read = refl

-- the sixth event stops the world, and with it the round robin
abbrev faulty : List ClassParts
faulty = main (iconst small.Zero ∷ lconst small_long.Zero ∷ iadd ∷ return ∷ []) ∷ []

a_stop_ends_the_round_robin : robin (loaded_world faulty 65536) 100 1 ≡ replicate 6 (Step 1)
unfolding computed
a_stop_ends_the_round_robin = refl

abbrev said : ReplyKind → ℕ → Reply
said k live = record { kind = k; made = 2; live = live }

a_worker_ends_at_a_stop : worker_turn (said kind.Done 2 ∷ said kind.Stopped 2 ∷ []) ≡ None
a_worker_ends_at_a_stop = refl

and_not_at_a_block : worker_turn (said kind.Done 2 ∷ said kind.Blocked 2 ∷ []) ≡ Some 1
and_not_at_a_block = refl

nor_at_an_ended_thread : worker_turn (said kind.Done 2 ∷ said kind.Ended 1 ∷ []) ≡ Some 1
nor_at_an_ended_thread = refl

a_worker_begins_at_the_first : worker_turn [] ≡ Some 1
a_worker_begins_at_the_first = refl
