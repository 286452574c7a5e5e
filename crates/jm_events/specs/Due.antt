-- The events of a run, and those that are due behind some of them.
use Rattle.std.specs.Prelude.{◌≡◌, ℕ, suc, zero, ◌+◌, ◌-◌, ◌<◌, List, ◌∷◌, ◌++◌, Bool, true, false, drop, max, min, nat_eq, nat_lt, replicate}
use Rattle.jm_world.specs.RoundRobin.{is_blocked, robin_from}
use Rattle.jm_world.specs.Run.{after, replies_from, run_from}
use Rattle.jm_world.specs.World.{World}
use Rattle.jm_world.specs.declared.event.Event.{Event}
use Rattle.jm_world.specs.declared.event.Event.TheVariants.{Step}
use Rattle.jm_schedule.specs.Runs.{events_of, repeats_of}
use Rattle.jm_machine.specs.ManySteps.{done_reply, steps_of}
use Rattle.jm_events.specs.Passes.{Knows}
use Rattle.jm_events.specs.declared.due.DueEvent.{DueEvent}
use Rattle.jm_events.specs.declared.scheduled.Scheduled.{Scheduled}
use Rattle.jm_events.specs.declared.turns.Turns.{Turns}

-- ---- the next event

-- an event is the next one, and where it is a step that is done, and makes and ends no thread, so many of them are
pub record IsNext {S : Type 0} (due : S → World → List Event) (knows : S → World → Type 0) (seen : S → Bool → S) (behind : S → ℕ → S) (old : S) (w : World) (d : DueEvent) (new : S) : Type 0 where
  pub one : due old w ≡ d.event ∷ due (seen new (is_blocked (after w d.event).reply.kind)) (after w d.event).world
  pub kept : knows (seen new (is_blocked (after w d.event).reply.kind)) (after w d.event).world
  pub some : 0 < d.most
  pub many : (thread k : ℕ) → d.event ≡ Step thread → k < d.most → replies_from w (steps_of thread k) ≡ replicate k (done_reply w)
      → let v = run_from w (steps_of thread k) in
      (due old w ≡ steps_of thread k ++ Step thread ∷ due (seen (behind new k) (is_blocked (after v (Step thread)).reply.kind)) (after v (Step thread)).world)
      × knows (seen (behind new k) (is_blocked (after v (Step thread)).reply.kind)) (after v (Step thread)).world

-- ---- those of a schedule

-- what is left of the run that is being made, and the runs behind it
abbrev pub scheduled_due : Scheduled → List Event
scheduled_due s = repeats_of s.run ++ events_of (drop s.begun s.runs.now)

abbrev pub scheduled_behind : Scheduled → ℕ → Scheduled
scheduled_behind s count = record s { run = record { event = s.run.event; count = s.run.count - count } }

-- ---- those that turns of the threads make

abbrev pub turns_due : Turns → World → List Event
turns_due t w = robin_from t.steps t.quantum w (t.passed + 1) t.left t.moved

abbrev pub turns_knows : Turns → World → Type 0
turns_knows t w = Knows t.pass t.passed w

-- behind an event of the thread whose turn it is, which was blocked or not
abbrev pub turns_seen : Turns → Bool → Turns
turns_seen t true = record t { passed = t.thread; left = t.quantum }
turns_seen t false = elim (nat_lt 1 t.left) [
  | true ↦ record t { left = t.left - 1; moved = true }
  | false ↦ record t { passed = t.thread; left = t.quantum; moved = true }
]

-- with one event more of the same thread, in the same turn or in that of a new pass
abbrev pub once_more : Turns → Turns
once_more t = elim (nat_lt 1 t.left) [
  | true ↦ record t { steps = t.steps - 1; left = t.left - 1; moved = true }
  | false ↦ record t { steps = t.steps - 1; left = t.quantum; moved = false }
]

abbrev pub turns_behind : Turns → ℕ → Turns
turns_behind t zero = t
turns_behind t (suc count) = turns_behind (once_more t) count

-- a thread's event: what its turn has left, or a turn of its own
abbrev pub left_of : Turns → ℕ → ℕ
left_of t thread = elim (nat_eq (thread - 1) t.passed) [ true ↦ t.left | false ↦ t.quantum ]

abbrev pub turn_taken : Turns → ℕ → Turns
turn_taken t thread = record t { steps = t.steps - 1; thread = thread; passed = thread - 1; left = left_of t thread }

-- how many events there may be at once: those of the turn, or all where no other thread is live
abbrev pub most_of : ℕ → ℕ → ℕ → ℕ
most_of steps left live = elim (nat_eq live 1) [ true ↦ steps | false ↦ min steps (max left 1) ]
