-- What a search of schedules found, and what is told of it.
use Rattle.std.specs.Prelude.{◌≡◌, ◌≤◌, ℕ, List, [], ◌∷◌, Option, Some, None, codes}
use Rattle.std.specs.List.{All, AllPairs}
use Rattle.jm_world.specs.World.{World}
use Rattle.jm_explore.specs.Outcomes.{AllTold, AreOther, HasFewest, IsTrueOf, told_end}
use Rattle.jm_explore.specs.Searches.{founds}
use Rattle.jm_explore.specs.declared.bounds.Bounds.{Bounds}
use Rattle.jm_explore.specs.declared.exploration.Explored.{Explored}
use Rattle.jm_explore.specs.declared.told.Told.{Told}
use Rattle.jm_explore.specs.declared.unfinished.Unfinished.{Unfinished}
use Rattle.jm_explore.specs.declared.unfinished.Unfinished.TheVariants as unfinished
use Rattle.jm_explore.specs.ExplorationTexts.{exploration_text, told_at}
use Rattle.jm_explore.specs.ScheduleTexts.{schedule_text}
use Rattle.jm_explore.specs.Statuses.{outcome_status}
use Rattle.jm_execute.specs.Reports.{memory_line}
use Rattle.jm_execute.specs.declared.exploring.Lack.{Lack}
use Rattle.jm_execute.specs.declared.exploring.Lack.TheVariants as lacks
use Rattle.jm_explain.specs.declared.status.Status.{Status}
use Rattle.jm_explain.specs.declared.status.Status.TheVariants as ends

-- what a search from a world on found within bounds
pub record Finds (w : World) (b : Bounds) (e : Explored) : Type 0 where
  -- each outcome is that of the schedule told with it, which is one of the definition
  pub sound : All (IsTrueOf w b.slice b.steps) (founds e.told.items)
  pub within : All (λ f. f.switches ≤ b.switches) (founds e.told.items)
  -- no schedule of fewer switches comes to it
  pub fewest : All (HasFewest w b.slice b.steps) (founds e.told.items)
  pub other : AllPairs AreOther (founds e.told.items)
  -- where the search was finished, the outcome of every schedule within the bounds is told
  pub complete : e.unfinished ≡ None → AllTold w b.slice b.switches b.steps (founds e.told.items)

-- ---- what is written

abbrev pub told_schedule : Option Told → List ℕ
told_schedule None = []
told_schedule (Some t) = schedule_text t.schedule.items

-- all that was found, or the schedule of one outcome alone
abbrev pub found_text : Bounds → Explored → Option ℕ → List ℕ
found_text b e None = exploration_text b e
found_text b e (Some n) = told_schedule (told_at n e.told.items)

-- ---- what it lacks

abbrev pub lack_without : Option Told → Option Lack
lack_without None = Some lacks.Outcome
lack_without (Some t) = None

-- there is no outcome of the number that is asked for
abbrev pub lack_of_outcome : List Told → Option ℕ → Option Lack
lack_of_outcome told None = None
lack_of_outcome told (Some n) = lack_without (told_at n told)

-- memory was refused before the end, and else that
abbrev pub lack_by : Option Unfinished → Option Lack → Option Lack
lack_by None lack = lack
lack_by (Some unfinished.RunsEnd) lack = lack
lack_by (Some unfinished.OutOfMemory) lack = Some lacks.Memory
lack_by (Some unfinished.HeapTooSmall) lack = lack

abbrev pub lack_of : Explored → Option ℕ → Option Lack
lack_of e wanted = lack_by e.unfinished (lack_of_outcome e.told.items wanted)

abbrev pub no_such_line : List ℕ
no_such_line = codes "jm: 81 NoSuch\n"

abbrev pub lack_lines : Option Lack → List ℕ
lack_lines None = []
lack_lines (Some lacks.Memory) = memory_line
lack_lines (Some lacks.Outcome) = no_such_line

-- ---- the status

-- where there is one outcome: that not all were tried, or else its status
abbrev pub one_status : Option Unfinished → Told → Status
one_status None t = outcome_status (told_end t.outcome)
one_status (Some why) t = ends.NotAllTried

-- more than one outcome, one, or none
abbrev pub told_status : Option Unfinished → List Told → Status
told_status why [] = ends.NotAllTried
told_status why (t ∷ []) = one_status why t
told_status why (t ∷ u ∷ ts) = ends.SeveralOutcomes

abbrev pub lack_status : Option Lack → Status → Status
lack_status None told = told
lack_status (Some lacks.Memory) told = ends.OutOfMemory
lack_status (Some lacks.Outcome) told = ends.Refused

abbrev pub found_status : Explored → Option ℕ → Status
found_status e wanted = lack_status (lack_of e wanted) (told_status e.unfinished e.told.items)

abbrev pub found_lines : Explored → Option ℕ → List ℕ
found_lines e wanted = lack_lines (lack_of e wanted)
