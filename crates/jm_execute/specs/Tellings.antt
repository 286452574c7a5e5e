-- Runs of which a text is told on standard output: which run the files of a job say, how its telling ends, and what is left behind.
use Rattle.std.specs.Prelude.{◌≡◌, ◌⊎◌, ℕ, List, [], Option, Some, None, Result, Ok, Err, Bool, true, false}
use Rattle.jm_film.specs.FilmPages.{film_events, film_page}
use Rattle.jm_film.specs.declared.window.Window.{Window}
use Rattle.jm_page.specs.declared.source.Source.{Source}
use Rattle.jm_page.specs.declared.writer.PageFault.{PageFault}
use Rattle.jm_page.specs.declared.writer.PageFault.TheVariants as page
use Rattle.jm_program.specs.Lists.{Begins}
use Rattle.jm_program.specs.declared.class.ClassParts.{ClassParts}
use Rattle.jm_trace.specs.Traces.{trace}
use Rattle.jm_trace.specs.declared.shown.Shown.{Shown}
use Rattle.jm_why.specs.Answers.{why}
use Rattle.jm_world.specs.Loading.{loaded_world}
use Rattle.jm_world.specs.RoundRobin.{robin}
use Rattle.jm_world.specs.Run.{run_from}
use Rattle.jm_world.specs.World.{World}
use Rattle.jm_world.specs.declared.event.Event.{Event}
use Rattle.jm_execute.specs.Endings.{LinesTold}
use Rattle.jm_execute.specs.Reasons.{Reason, reason_line, reason_status}
use Rattle.jm_execute.specs.Reports.{failure_line, memory_line, report, status_of}
use Rattle.jm_execute.specs.Verdicts.{Cause, because, bytes_of, program_of, scheduled_events, ◌>>=◌}
use Rattle.jm_execute.specs.Written.{AllWritten, Broken, Watch, Words}
use Rattle.jm_explain.specs.declared.status.Status.{Status}
use Rattle.jm_explain.specs.declared.status.Status.TheVariants as ends
use Rattle.jm_job.specs.declared.told_job.ToldEvents.{ToldEvents}
use Rattle.jm_job.specs.declared.told_job.ToldEvents.TheVariants.{Schedule, RoundRobin}
use Rattle.jm_job.specs.declared.told_job.ToldJob.{ToldJob}

-- ---- a run by one worker

-- of a program over a heap of this limit, by these events
pub record ToldRun : Type 0 where
  pub program : List ClassParts
  pub limit : ℕ
  pub events : List Event

abbrev pub first_world : ToldRun → World
first_world r = loaded_world r.program r.limit

abbrev pub told_run : List ClassParts → ℕ → List Event → ToldRun
told_run program limit events = record { program = program; limit = limit; events = events }

-- ---- which one the files of a job say, or why there is none

-- where the events are those of a schedule, it was read
abbrev pub due_read : ToldEvents → Result (Unit {0}) Cause
due_read (Schedule file) = do
  text ← bytes_of file
  Ok tt
due_read (RoundRobin turns) = Ok tt

-- the events that are due from a world on
abbrev pub due_of : ToldEvents → World → Result (List Event) Cause
due_of (Schedule file) w = scheduled_events file
due_of (RoundRobin turns) w = Ok (robin w turns.steps turns.quantum)

-- a schedule is read first and looked at last
unfoldable pub told_verdict : ToldJob → Result ToldRun Cause
told_verdict job = do
  read ← due_read job.events
  program ← program_of job.heap job.program.items
  events ← due_of job.events (loaded_world program job.heap)
  Ok (told_run program job.heap events)

-- ---- what is told of a run

pub record Telling : Type 0 where
  -- the text, by the run's first world and the events that are due
  pub text : World → List Event → List ℕ
  -- those of the events that are made
  pub made : List Event → List Event

-- a film's page; its events are those that are not shown, and those that are
abbrev pub film_telling : Window → List Source → Telling
film_telling window sources = record { text = λ w events. film_page w events window sources; made = film_events window }

-- a line for each event that is shown; all events are made
abbrev pub trace_telling : Shown → Telling
trace_telling shown = record { text = trace shown; made = λ events. events }

-- how the run ended, and where; all events are made
abbrev pub why_telling : Option ℕ → Telling
why_telling limit = record { text = why limit; made = λ events. events }

-- the most events of turns; a schedule spells its own
abbrev pub most_of : ToldEvents → Option ℕ
most_of (Schedule file) = None
most_of (RoundRobin turns) = Some turns.steps

abbrev pub text_of : Telling → ToldRun → List ℕ
text_of tells r = tells.text (first_world r) r.events

-- the world behind the events that are made
abbrev pub last_world : Telling → ToldRun → World
last_world tells r = run_from (first_world r) (tells.made r.events)

-- ---- how its telling ends

pub data TellingEnding : Type 0 where
  -- the events were made, and the text was told
  told : ToldRun → TellingEnding
  -- memory was refused: this much of a text was made
  cut_short : List ℕ → TellingEnding
  -- there was no run, for this reason
  turned_away : Reason → TellingEnding

-- a beginning of the text
abbrev pub IsPart : Telling → Result ToldRun Cause → List ℕ → Type 0
IsPart tells v front = (r : ToldRun) × (v ≡ Ok r) × Begins front (text_of tells r)

-- the endings that the files allow: memory may be refused at any time
abbrev pub TellingAllows : Telling → Result ToldRun Cause → TellingEnding → Type 0
TellingAllows tells v (told r) = v ≡ Ok r
TellingAllows tells v (cut_short front) = (front ≡ []) ⊎ IsPart tells v front
TellingAllows tells v (turned_away reason) = v ≡ Err (because reason)

abbrev pub telling_output : Telling → TellingEnding → List ℕ
telling_output tells (told r) = text_of tells r
telling_output tells (cut_short front) = front
telling_output tells (turned_away reason) = []

-- the status is the run's
abbrev pub telling_status : Telling → TellingEnding → Status
telling_status tells (told r) = status_of (last_world tells r)
telling_status tells (cut_short front) = ends.OutOfMemory
telling_status tells (turned_away reason) = reason_status reason

abbrev pub telling_lines : Telling → TellingEnding → List ℕ
telling_lines tells (told r) = report (last_world tells r)
telling_lines tells (cut_short front) = memory_line
telling_lines tells (turned_away reason) = reason_line reason

-- ---- what is left behind

-- a status, and lines
abbrev pub Says : {W : Type 0} → Words W → Status → List ℕ → Status → Watch W → Watch W → Type 0
Says says wanted lines status err new_err = (status ≡ wanted) × LinesTold says (Some lines) new_err.failed err new_err

abbrev pub SaysEnding : {W : Type 0} → Words W → Telling → TellingEnding → Status → Watch W → Watch W → Type 0
SaysEnding says tells e status err new_err = Says says (telling_status tells e) (telling_lines tells e) status err new_err

-- how the run has ended is told, or memory was refused to the lines that tell it
abbrev pub EndTold : {W : Type 0} → Words W → World → Status → Watch W → Watch W → Type 0
EndTold says w status err new_err = Says says (status_of w) (report w) status err new_err ⊎ Says says ends.OutOfMemory memory_line status err new_err

-- what is said once a text was written, or was not, in the world behind its events
abbrev pub TextTold : {A W : Type 0} → Words W → Result A PageFault → World → Status → Watch W → Watch W → Type 0
TextTold says (Ok a) w status err new_err = EndTold says w status err new_err
TextTold says (Err page.OutOfMemory) w status err new_err = Says says ends.OutOfMemory memory_line status err new_err
TextTold says (Err page.WriteFailed) w status err new_err = Says says ends.Files failure_line status err new_err

-- a write failed at a beginning of a text
abbrev pub BrokenWithin : {W : Type 0} → Words W → List ℕ → Watch W → Watch W → Type 0
BrokenWithin says text old new = (front : List ℕ) × Begins front text × Broken says old new front

abbrev pub TellingLeavesIf : {O E : Type 0} → Bool → Words O → Words E → Telling → TellingEnding → Status → Watch O → Watch O → Watch E → Watch E → Type 0
TellingLeavesIf false o w tells e status out new_out err new_err = AllWritten o out new_out (telling_output tells e) × SaysEnding w tells e status err new_err
TellingLeavesIf true o w tells e status out new_out err new_err =
    BrokenWithin o (telling_output tells e) out new_out × Says w ends.Files failure_line status err new_err

-- The text is written, then the lines, and the status is the ending's. Where a write of the text failed, a beginning of it stands, and the status
-- says so.
abbrev pub TellingLeaves : {O E : Type 0} → Words O → Words E → Telling → TellingEnding → Status → Watch O → Watch O → Watch E → Watch E → Type 0
TellingLeaves o w tells e status out new_out err new_err = TellingLeavesIf new_out.failed o w tells e status out new_out err new_err

-- a run with this verdict is told: its telling ends as the verdict allows, and leaves its text, status and lines
abbrev pub IsTold : {O E : Type 0} → Words O → Words E → Telling → Result ToldRun Cause → Status → Watch O → Watch O → Watch E → Watch E → Type 0
IsTold o w tells v status out new_out err new_err =
    (e : TellingEnding) × TellingAllows tells v e × TellingLeaves o w tells e status out new_out err new_err
