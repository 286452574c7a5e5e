-- What reading a schedule answers.
use Rattle.std.specs.Prelude.{◌≡◌, ℕ, List, Result, Ok, Err, ⊤}
use Rattle.jm_world.specs.declared.event.Event.{Event}
use Rattle.jm_world.specs.Schedules.{schedule}
use Rattle.jm_schedule.specs.declared.fault.ScheduleFault.{ScheduleFault}
use Rattle.jm_schedule.specs.declared.fault.ScheduleFault.TheVariants.{BadSchedule, OutOfMemory}

-- the events that the bytes spell, or the first bad line; that memory was refused says nothing of the bytes
abbrev pub Reads : List ℕ → Result (List Event) ScheduleFault → Type 0
Reads bytes (Ok events) = schedule bytes ≡ Ok events
Reads bytes (Err (BadSchedule line)) = schedule bytes ≡ Err line
Reads bytes (Err OutOfMemory) = ⊤
