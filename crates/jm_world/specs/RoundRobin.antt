-- The events that are chosen where no schedule is given.
use Rattle.std.specs.Prelude.{ℕ, zero, suc, ◌+◌, ◌-◌, List, [], ◌∷◌, Option, Some, None, Bool, true, false, nat_eq, nat_le, nat_lt}
use Rattle.jm_world.specs.World.{World, Thread, is_running}
use Rattle.jm_world.specs.Run.{After, after}
use Rattle.jm_world.specs.declared.event.Event.{Event}
use Rattle.jm_world.specs.declared.event.Event.TheVariants.{Step}
use Rattle.jm_world.specs.declared.reply.ReplyKind.{ReplyKind}
use Rattle.jm_world.specs.declared.reply.ReplyKind.TheVariants as kind
use Rattle.jm_world.specs.declared.reply.Reply.{Reply}

-- the first thread from a number on that has not ended; the threads are numbered from the second
-- number on
abbrev pub live_from : ℕ → ℕ → List Thread → Option ℕ
live_from from number [] = None
live_from from number (t ∷ ts) = elim (nat_le from number) [
  | false ↦ live_from from (number + 1) ts
  | true ↦ elim (is_running t.ending) [ true ↦ Some number | false ↦ live_from from (number + 1) ts ]
]

-- whose turn it is, and whether an event of the pass was not blocked
pub record Turn : Type 0 where
  pub thread : ℕ
  pub moved : Bool

-- the next live thread of the pass, or the first of a new pass, unless all events of the pass were
-- blocked
abbrev pub next_turn : World → ℕ → Bool → Option Turn
next_turn w from moved = elim (live_from from 1 w.threads) [
  | Some n ↦ Some (record { thread = n; moved = moved })
  | None ↦ elim moved [
    | false ↦ None
    | true ↦ elim (live_from 1 1 w.threads) [ None ↦ None | Some n ↦ Some (record { thread = n; moved = false }) ]
  ]
]

-- whose turn it would be: none after a stop
abbrev pub turn_in : World → ℕ → Bool → Option Turn
turn_in w from moved = elim w.stop [ Some s ↦ None | None ↦ next_turn w from moved ]

abbrev pub is_blocked : ReplyKind → Bool
is_blocked kind.Blocked = true
is_blocked _ = false

-- a thread's events of this turn that are left: all of them, where another thread's turn was
abbrev pub left_for : ℕ → ℕ → ℕ → ℕ → ℕ
left_for n from left quantum = elim (nat_eq n from) [ true ↦ left | false ↦ quantum ]

-- at most so many events: a live thread makes up to a quantum of them, fewer if one is blocked or
-- the thread ends, and then comes the next one
abbrev pub robin_from : ℕ → ℕ → World → ℕ → ℕ → Bool → List Event
robin_from zero quantum w from left moved = []
robin_from (suc steps) quantum w from left moved = elim (turn_in w from moved) [
  | None ↦ []
  | Some turn ↦ let made : After = after w (Step turn.thread) in
      Step turn.thread ∷ elim (is_blocked made.reply.kind) [
        | true ↦ robin_from steps quantum made.world (turn.thread + 1) quantum turn.moved
        | false ↦ elim (nat_lt 1 (left_for turn.thread from left quantum)) [
          | true ↦ robin_from steps quantum made.world turn.thread (left_for turn.thread from left quantum - 1) true
          | false ↦ robin_from steps quantum made.world (turn.thread + 1) quantum true
        ]
      ]
]

-- the round robin over a world: at most so many events, a quantum to each turn
unfoldable pub robin : World → ℕ → ℕ → List Event
robin w steps quantum = robin_from steps quantum w 1 quantum false

-- the rule of one worker among several: from thread 1 on, one event each, round the threads that
-- its last reply tells, ended ones too, until that reply has none live or is stopped
abbrev pub is_stopped : ReplyKind → Bool
is_stopped kind.Stopped = true
is_stopped _ = false

abbrev pub goes_on : Reply → Bool
goes_on r = elim (is_stopped r.kind) [ true ↦ false | false ↦ nat_lt 0 r.live ]

abbrev pub round_after : ℕ → Reply → ℕ
round_after n r = elim (nat_lt n r.made) [ true ↦ n + 1 | false ↦ 1 ]

-- the worker's next thread after its replies so far: none if it has stopped
abbrev pub worker_thread : ℕ → List Reply → Option ℕ
worker_thread n [] = Some n
worker_thread n (r ∷ rs) = elim (goes_on r) [ true ↦ worker_thread (round_after n r) rs | false ↦ None ]

abbrev pub worker_turn : List Reply → Option ℕ
worker_turn replies = worker_thread 1 replies
