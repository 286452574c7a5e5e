-- The lines of the events of a run.
use Rattle.std.specs.Prelude.{ℕ, ◌+◌, ◌-◌, List, [], ◌∷◌, ◌++◌, Option, Some, None, Bool, true, false, ◌&&◌, nat_eq, nat_le, nat_lt, if◌then◌else◌}
use Rattle.jm_world.specs.World.{World}
use Rattle.jm_world.specs.Run.{after}
use Rattle.jm_world.specs.declared.event.Event.{Event}
use Rattle.jm_world.specs.declared.event.Event.TheVariants.{Step, Minor, Full}
use Rattle.jm_trace.specs.EventLines.{event_line}
use Rattle.jm_trace.specs.declared.shown.Shown.{Shown}

-- an event of a thread, where one is asked for
abbrev pub is_of : Option ℕ → Event → Bool
is_of None e = true
is_of (Some n) (Step m) = nat_eq m n
is_of (Some n) Minor = false
is_of (Some n) Full = false

-- the event of a number, where so many may still be shown
abbrev pub is_shown : Shown → ℕ → ℕ → Event → Bool
is_shown shown number left e = nat_le shown.first number && nat_lt 0 left && is_of shown.thread e

-- its line, if it is shown, and how many may be shown behind it
abbrev pub told : Shown → ℕ → ℕ → World → Event → List ℕ
told shown number left w e = if is_shown shown number left e then event_line number w e (after w e).reply.kind else []

abbrev pub left_behind : Shown → ℕ → ℕ → Event → ℕ
left_behind shown number left e = if is_shown shown number left e then left - 1 else left

-- the lines of events from a world on, which are numbered from a number on
abbrev pub trace_from : Shown → ℕ → ℕ → World → List Event → List ℕ
trace_from shown number left w [] = []
trace_from shown number left w (e ∷ es) =
    told shown number left w e ++ trace_from shown (number + 1) (left_behind shown number left e) (after w e).world es

-- those of a run
abbrev pub trace : Shown → World → List Event → List ℕ
trace shown w events = trace_from shown 1 shown.most w events
