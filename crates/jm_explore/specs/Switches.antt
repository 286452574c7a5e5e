-- Schedules with a bounded number of switches (Musuvathi and Qadeer 2007, "Iterative context bounding"). A schedule is the
-- list of the threads whose events are made, one after the other. It is made in slices, as a round robin's is: behind so
-- many events of one thread in a row the next thread follows, which is no switch.
use Rattle.std.specs.Prelude.{◌≡◌, ◌⊎◌, ℕ, zero, suc, ◌+◌, ◌-◌, ◌≤◌, List, [], ◌∷◌, Option, Some, None, Bool, true, false, ◌&&◌, nat_eq, nat_lt, length, map}
use Rattle.jm_world.specs.World.{World}
use Rattle.jm_world.specs.Run.{after, run_from}
use Rattle.jm_world.specs.declared.event.Event.{Event}
use Rattle.jm_world.specs.declared.event.Event.TheVariants.{Step}
use Rattle.jm_world.specs.declared.reply.ReplyKind.{ReplyKind}
use Rattle.jm_world.specs.declared.reply.ReplyKind.TheVariants as kind
use Rattle.jm_explore.specs.declared.turn.Turn.{Turn}

-- an event goes where it is done or stops the world; any other changes nothing
abbrev pub is_going : ReplyKind → Bool
is_going kind.Done = true
is_going kind.Stopped = true
is_going kind.Blocked = false
is_going kind.Ended = false
is_going kind.None = false

-- a thread can go: the world has not stopped, and the thread's next event would go. So it is there, has not ended, and no
-- other thread holds the monitor or the initialization that it needs
unfoldable pub can_go : World → ℕ → Bool
can_go w t = elim w.stop [ Some s ↦ false | None ↦ is_going (after w (Step t)).reply.kind ]

abbrev pub steps_of : List ℕ → List Event
steps_of ts = map (λ t. Step t) ts

abbrev pub world_after : World → List ℕ → World
world_after w ts = run_from w (steps_of ts)

-- each of the events goes
abbrev pub all_go : World → List ℕ → Bool
all_go w [] = true
all_go w (t ∷ ts) = can_go w t && all_go (after w (Step t)).world ts

-- ---- turns

-- the turn that the next event belongs to: of the thread whose event it is, and of one event more where that thread goes
-- on within its slice
abbrev pub next_turn : ℕ → Option Turn → ℕ → Turn
next_turn slice None t = record { thread = t; events = 1 }
next_turn slice (Some turn) t = elim (nat_eq turn.thread t && nat_lt turn.events slice) [
  | true ↦ record { thread = t; events = turn.events + 1 }
  | false ↦ record { thread = t; events = 1 }
]

-- the turn in which events leave
abbrev pub turn_from : ℕ → Option Turn → List ℕ → Option Turn
turn_from slice turn [] = turn
turn_from slice turn (t ∷ ts) = turn_from slice (Some (next_turn slice turn t)) ts

-- the first of so many threads, from a number on, that can go
abbrev pub first_of : World → ℕ → ℕ → Option ℕ
first_of w n zero = None
first_of w n (suc count) = elim (can_go w n) [ true ↦ Some n | false ↦ first_of w (n + 1) count ]

abbrev pub or_else : Option ℕ → Option ℕ → Option ℕ
or_else None other = other
or_else (Some n) other = Some n

-- the next thread by number that can go; behind the last one the first follows, and in the end the thread itself
abbrev pub next_of : World → ℕ → Option ℕ
next_of w t = or_else (first_of w (t + 1) (length w.threads - t)) (first_of w 1 t)

-- ---- switches

-- another thread than this one
abbrev pub other_than : ℕ → ℕ → ℕ
other_than n t = elim (nat_eq n t) [ true ↦ 0 | false ↦ 1 ]

-- within a slice a switch is another thread's event than the last one's, which could have gone on: a thread that is
-- blocked or has ended is left for nothing
abbrev pub switch_within : World → ℕ → ℕ → ℕ
switch_within w last t = elim (can_go w last) [ true ↦ other_than last t | false ↦ 0 ]

-- behind a slice a switch is any event but that of the next thread that can go
abbrev pub switch_behind : Option ℕ → ℕ → ℕ
switch_behind None t = 1
switch_behind (Some next) t = other_than next t

-- the first event is no switch
abbrev pub switch : World → ℕ → Option Turn → ℕ → ℕ
switch w slice None t = 0
switch w slice (Some turn) t = elim (nat_lt turn.events slice) [ true ↦ switch_within w turn.thread t | false ↦ switch_behind (next_of w turn.thread) t ]

abbrev pub switches_from : World → ℕ → Option Turn → List ℕ → ℕ
switches_from w slice turn [] = 0
switches_from w slice turn (t ∷ ts) = switch w slice turn t + switches_from (after w (Step t)).world slice (Some (next_turn slice turn t)) ts

abbrev pub switches : World → ℕ → List ℕ → ℕ
switches w slice ts = switches_from w slice None ts

-- ---- schedules

-- no thread can go: all have ended, the world has stopped, or each that has not ended is blocked
abbrev pub IsEnd : World → Type 0
IsEnd w = (t : ℕ) → can_go w t ≡ false

-- a schedule of at most so many switches and at most so many steps, which goes on as long as it may
pub record IsSchedule (w : World) (slice most steps : ℕ) (ts : List ℕ) : Type 0 where
  pub go : all_go w ts ≡ true
  pub few : switches w slice ts ≤ most
  pub within : length ts ≤ steps
  pub whole : (length ts ≡ steps) ⊎ IsEnd (world_after w ts)
