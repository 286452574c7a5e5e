-- With which status a run ends.
use Rattle.std.specs.Prelude.{List, [], ◌∷◌, Bool, true, false}
use Rattle.jm_explain.specs.declared.status.Status.{Status}
use Rattle.jm_explain.specs.declared.status.Status.TheVariants as ends
use Rattle.jm_world.specs.declared.stop.Stop.{Stop}
use Rattle.jm_world.specs.declared.stop.Stop.TheVariants.{TagFault, HeapFull, SerialsEnd}
use Rattle.jm_explore.specs.Outcomes.{End, Thrown}
use Rattle.jm_explore.specs.declared.outcome.HowEnded.{HowEnded}
use Rattle.jm_explore.specs.declared.outcome.HowEnded.TheVariants as how

abbrev pub stop_status : Stop → Status
stop_status (TagFault fault) = ends.TagFault
stop_status HeapFull = ends.HeapFull
stop_status SerialsEnd = ends.HeapFull

-- all threads have ended: one of them by an exception, or none
abbrev pub ended_status : Bool → Status
ended_status true = ends.EndedByException
ended_status false = ends.Done

abbrev pub has_thrown : List Thrown → Bool
has_thrown [] = false
has_thrown (t ∷ ts) = true

abbrev pub how_status : HowEnded → List Thrown → Status
how_status how.Ended thrown = ended_status (has_thrown thrown)
how_status (how.Stopped stop) thrown = stop_status stop
how_status (how.Deadlock live) thrown = ends.NotEnded
how_status how.Cut thrown = ends.NotEnded

-- that of a run which comes to this outcome
abbrev pub outcome_status : End → Status
outcome_status e = how_status e.how e.thrown
