-- The events of runs.
use Rattle.std.specs.Prelude.{List, replicate}
use Rattle.std.specs.List.{flat_map}
use Rattle.jm_world.specs.declared.event.Event.{Event}
use Rattle.jm_schedule.specs.declared.schedule.Run.{Run}

-- a run is its event, as often as it says
abbrev pub repeats_of : Run → List Event
repeats_of run = replicate run.count run.event

-- the events of runs, one run after the other
unfoldable pub events_of : List Run → List Event
events_of runs = flat_map repeats_of runs
