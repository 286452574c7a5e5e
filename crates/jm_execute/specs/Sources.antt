-- The events of a run that is prepared, from the world that it begins in.
use Rattle.std.specs.Prelude.{List}
use Rattle.jm_world.specs.RoundRobin.{robin}
use Rattle.jm_world.specs.World.{World}
use Rattle.jm_world.specs.declared.event.Event.{Event}
use Rattle.jm_choice.specs.Choices.{Choice, by_workers, listed}
use Rattle.jm_execute.specs.declared.events.RunSource.{RunSource}
use Rattle.jm_execute.specs.declared.events.RunSource.TheVariants.{Schedule, RoundRobin}
use Rattle.jm_execute.specs.declared.events.RunPlan.{RunPlan}
use Rattle.jm_execute.specs.declared.events.RunPlan.TheVariants.{Source, Workers}

abbrev pub events_made : RunSource → World → List Event
events_made (Schedule events) w = events
events_made (RoundRobin turns) w = robin w turns.steps turns.quantum

-- how its events are chosen
abbrev pub choice_made : RunPlan → World → Choice
choice_made (Source source) w = listed (events_made source w)
choice_made (Workers workers) w = by_workers workers.count workers.steps
