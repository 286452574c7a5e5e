-- What was found, as it is told.
use Rattle.std.specs.Prelude.{ℕ, zero, suc, ◌+◌, List, [], ◌∷◌, ◌++◌, Option, Some, None, codes, nat_eq, slice_get, if◌then◌else◌}
use Rattle.std.specs.Fmt.{decimal}
use Rattle.jm_explore.specs.Outcomes.{told_end}
use Rattle.jm_explore.specs.declared.bounds.Bounds.{Bounds}
use Rattle.jm_explore.specs.declared.exploration.Explored.{Explored}
use Rattle.jm_explore.specs.declared.outcome.HowEnded.{HowEnded}
use Rattle.jm_explore.specs.declared.outcome.HowEnded.TheVariants as how
use Rattle.jm_explore.specs.declared.told.Told.{Told}
use Rattle.jm_explore.specs.declared.unfinished.Unfinished.{Unfinished}
use Rattle.jm_explore.specs.declared.unfinished.Unfinished.TheVariants.{RunsEnd, OutOfMemory, HeapTooSmall}
use Rattle.jm_explore.specs.Marked.{Text, marked}
use Rattle.jm_explore.specs.OutcomeTexts.{outcome_lines}
use Rattle.jm_explore.specs.ScheduleTexts.{schedule_text}
use Rattle.jm_explore.specs.Statuses.{outcome_status}
use Rattle.jm_explain.specs.Codes.{code_of}

-- so many things: the word for one, and for any other number
abbrev pub counted_word : ℕ → Text → Text → Text
counted_word n one many = if nat_eq n 1 then one else many

abbrev pub counted : ℕ → Text → Text → Text
counted n one many = decimal n ++ (codes " " ++ counted_word n one many)

abbrev pub schedules_text : ℕ → Text
schedules_text n = counted n (codes "schedule") (codes "schedules")

abbrev pub switches_text : ℕ → Text
switches_text n = counted n (codes "switch") (codes "switches")

-- of a slice
abbrev pub events_text : ℕ → Text
events_text n = counted n (codes "event") (codes "events")

abbrev pub steps_text : ℕ → Text
steps_text n = counted n (codes "step") (codes "steps")

abbrev pub runs_text : ℕ → Text
runs_text n = counted n (codes "run") (codes "runs")

abbrev pub how_text : HowEnded → Text
how_text how.Ended = codes "ended"
how_text (how.Stopped stop) = codes "stopped"
how_text (how.Deadlock live) = codes "deadlock"
how_text how.Cut = codes "cut"

-- ---- an outcome

-- how many schedules come to it, how many switches the one that is told has, how it ended, and its status
abbrev pub heading : ℕ → Told → Text
heading number t =
    codes "outcome " ++ (decimal number ++ (codes ": " ++ (schedules_text t.schedules ++ (codes ", first with " ++ (switches_text t.switches ++ (codes ", "
    ++ (how_text t.outcome.how ++ (codes ", status " ++ (decimal (code_of (outcome_status (told_end t.outcome))) ++ codes "\n")))))))))

-- what the program printed, what standard error says, and the schedule
abbrev pub told_text : ℕ → Told → Text
told_text number t =
    heading number t ++ (marked (codes "| ") t.outcome.output.items ++ (marked (codes "! ") (outcome_lines (told_end t.outcome)) ++ schedule_text t.schedule.items))

-- one after the other; they are numbered from the number on
abbrev pub tolds_text : ℕ → List Told → Text
tolds_text number [] = []
tolds_text number (t ∷ ts) = told_text number t ++ tolds_text (number + 1) ts

-- ---- whether that is all

abbrev pub why_text : Bounds → Unfinished → Text
why_text b RunsEnd = codes "stopped after " ++ runs_text b.runs
why_text b OutOfMemory = codes "61 OutOfMemory"
why_text b HeapTooSmall = codes "63 HeapTooSmall"

abbrev pub end_line : Bounds → ℕ → Option Unfinished → Text
end_line b schedules None =
    codes "complete: " ++ (schedules_text schedules ++ (codes " of at most " ++ (switches_text b.switches ++ (codes ", slices of " ++ (events_text b.slice ++ (codes " and " ++ (steps_text b.steps ++ codes "\n")))))))
end_line b schedules (Some why) = codes "not complete: " ++ (why_text b why ++ codes "\n")

abbrev pub exploration_text : Bounds → Explored → Text
exploration_text b e = tolds_text 1 e.told.items ++ end_line b e.schedules e.unfinished

-- the outcome of a number, from 1 on
abbrev pub told_at : ℕ → List Told → Option Told
told_at zero told = None
told_at (suc n) told = slice_get told n
