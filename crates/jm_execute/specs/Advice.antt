-- What is said behind the lines of a job, where more is asked for: of files that are refused what a check tells of them, of a run how it ended and
-- where, and which number to ask `jm explain` for. It is a function of the job and of the status that it ended with.
use Rattle.std.specs.Prelude.{◌≡◌, ◌⊎◌, ℕ, List, [], ◌++◌, Option, Some, None, Result, Ok, Err, Bool, true, false, codes, if◌then◌else◌}
use Rattle.jm_choice.specs.Choices.{Choice, by_workers, listed, recorded}
use Rattle.jm_class_writer.specs.FaultTexts as written
use Rattle.jm_linker.specs.FaultTexts as link
use Rattle.jm_why.specs.Answers.{why}
use Rattle.jm_world.specs.Loading.{loaded_world}
use Rattle.jm_world.specs.World.{World}
use Rattle.jm_world.specs.declared.event.Event.{Event}
use Rattle.jm_execute.specs.Checks.{told_of}
use Rattle.jm_execute.specs.Quotes.{up_to}
use Rattle.jm_execute.specs.Reasons.{Reason, file_fault_text, heap_too_small, no_class, no_class_file, no_event, not_linked, not_read, reason_says}
use Rattle.jm_execute.specs.Verdicts.{Cause, Verdict, Work, assembles, because, debug_verdict, debugs, disassembles, explore_verdict, explores, replay_verdict, run_verdict, runs, scheduled_events, unknown}
use Rattle.jm_explain.specs.declared.status.Status.{Status}
use Rattle.jm_explain.specs.declared.status.Status.TheVariants as ends
use Rattle.jm_job.specs.declared.job.InputFile.{InputFile}
use Rattle.jm_job.specs.declared.job.Job.{Job}
use Rattle.jm_job.specs.declared.job.Job.TheVariants.{Run, Replay, Explore, Assemble, Disassemble, Debug}
use Rattle.jm_job.specs.declared.job.RunEvents.{RunEvents}
use Rattle.jm_job.specs.declared.job.RunEvents.TheVariants.{Schedule, RoundRobin, Workers}

-- ---- the number to ask for

-- a fault, a stop or a status is said with its number in front, which ends before a blank
abbrev pub see_line : List ℕ → List ℕ
see_line said = codes "see: jm explain " ++ up_to 32 said ++ codes "\n"

-- the fault of a reason
abbrev pub reason_fault : Reason → List ℕ
reason_fault (not_read name) = codes "2"
reason_fault (no_class name fault) = file_fault_text fault
reason_fault (no_class_file name fault) = written.fault_text fault
reason_fault (not_linked fault) = link.fault_text fault
reason_fault heap_too_small = reason_says heap_too_small
reason_fault (no_event line) = reason_says (no_event line)

-- what a status says of a job that there was: of a search refused is an outcome that was not found, of a replay a reply that differs
abbrev pub status_says : Status → List ℕ
status_says ends.Done = codes "0"
status_says ends.CommandLine = codes "1"
status_says ends.Files = codes "2"
status_says ends.EndedByException = codes "3"
status_says ends.Refused = codes "81"
status_says ends.TagFault = codes "60"
status_says ends.HeapFull = codes "62"
status_says ends.OutOfMemory = codes "61"
status_says ends.NotEnded = codes "8"
status_says ends.BadSchedule = codes "71"
status_says ends.SeveralOutcomes = codes "10"
status_says ends.NotAllTried = codes "11"

-- ---- how a run ended

-- by a stop or an exception, or a thread had not ended
abbrev pub ends_badly : Status → Bool
ends_badly ends.EndedByException = true
ends_badly ends.TagFault = true
ends_badly ends.HeapFull = true
ends_badly ends.NotEnded = true
ends_badly other = false

-- the most events of turns
abbrev pub most_of : RunEvents → Option ℕ
most_of (Schedule file) = None
most_of (RoundRobin turns) = Some turns.steps
most_of (Workers workers) = None

-- of a run whose events are listed; those of several workers are no function of the files
abbrev pub choice_answer : Option ℕ → World → Choice → List ℕ
choice_answer most w (listed events) = why most w events
choice_answer most w (by_workers count steps) = []
choice_answer most w (recorded entries) = []

abbrev pub run_answer : Option ℕ → Work → List ℕ
run_answer most (runs program limit choice shows) = choice_answer most (loaded_world program limit) choice
run_answer most (explores program limit bounds outcome) = []
run_answer most (assembles class bytes) = []
run_answer most (disassembles name commented class) = []
run_answer most (debugs program limit) = []

-- of a replay, by its record as a schedule, which may have fewer events than a record
abbrev pub scheduled_answer : World → Result (List Event) Cause → List ℕ
scheduled_answer w (Ok events) = why None w events
scheduled_answer w (Err cause) = []

abbrev pub replay_answer : InputFile → Work → List ℕ
replay_answer file (runs program limit choice shows) = scheduled_answer (loaded_world program limit) (scheduled_events file)
replay_answer file (explores program limit bounds outcome) = []
replay_answer file (assembles class bytes) = []
replay_answer file (disassembles name commented class) = []
replay_answer file (debugs program limit) = []

-- ---- all of it

-- why the files say no job
abbrev pub cause_advice : List InputFile → Cause → List ℕ
cause_advice files (because reason) = told_of true files ++ see_line (reason_fault reason)
cause_advice files unknown = see_line (codes "61")

abbrev pub answer_if : Bool → List ℕ → List ℕ
answer_if true answer = answer
answer_if false answer = []

-- with this verdict, and what there is to say of how a run ended
abbrev pub verdict_advice : List InputFile → (Work → List ℕ) → Verdict → Status → List ℕ
verdict_advice files answer (Err cause) status = cause_advice files cause
verdict_advice files answer (Ok work) status = answer_if (ends_badly status) (answer work) ++ see_line (status_says status)

abbrev pub no_answer : Work → List ℕ
no_answer work = []

abbrev pub job_advice : Job → Status → List ℕ
job_advice (Run job) status = verdict_advice job.program.items (run_answer (most_of job.events)) (run_verdict job) status
job_advice (Replay job) status = verdict_advice job.program.items (replay_answer job.record_file) (replay_verdict job) status
job_advice (Explore job) status = verdict_advice job.program.items no_answer (explore_verdict job) status
job_advice (Assemble job) status = see_line (status_says status)
job_advice (Disassemble job) status = see_line (status_says status)
job_advice (Debug job) status = verdict_advice job.program.items no_answer (debug_verdict job) status

abbrev pub is_done : Status → Bool
is_done ends.Done = true
is_done other = false

-- nothing where all went well
abbrev pub advice : Job → Status → List ℕ
advice job status = if is_done status then [] else job_advice job status

-- memory may be refused at any time
abbrev pub Advises : Job → Status → List ℕ → Type 0
Advises job status text = (text ≡ advice job status) ⊎ (text ≡ see_line (codes "61"))
