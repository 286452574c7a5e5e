-- What the files of a job say: a run of a program, a search of its schedules, a class with the bytes of its file, a class to be given a text, a session of the debugger, or why there is none.
-- Each is a chain of steps; the first step that has no answer says why.
use Rattle.std.specs.Prelude.{ℕ, List, [], ◌∷◌, Option, Some, None, Result, Ok, Err, Bool, not, option_map, if◌then◌else◌}
use Rattle.std.specs.String.{string_bytes}
use Rattle.jm_bytes.specs.Reading.{and_then, fault_as}
use Rattle.jm_program.specs.declared.class.ClassParts.{ClassParts}
use Rattle.jm_class_writer.specs.ClassParts.{written}
use Rattle.jm_world.specs.Loading.{is_too_small, loaded_world}
use Rattle.jm_world.specs.Loads.{refusal}
use Rattle.jm_world.specs.RoundRobin.{robin}
use Rattle.jm_world.specs.Schedules.{Entry, record_entries, schedule}
use Rattle.jm_world.specs.World.{World}
use Rattle.jm_choice.specs.Choices.{Choice, by_workers, listed, recorded}
use Rattle.jm_world.specs.declared.event.Event.{Event}
use Rattle.jm_linker.specs.Findings.{load_fault}
use Rattle.jm_linker.specs.declared.fault.LinkFault.{LinkFault}
use Rattle.jm_job.specs.declared.job.Contents.{Contents}
use Rattle.jm_job.specs.declared.job.Contents.TheVariants.{Bytes, NotRead, OutOfMemory}
use Rattle.jm_job.specs.declared.job.InputFile.{InputFile}
use Rattle.jm_job.specs.declared.job.RunEvents.{RunEvents}
use Rattle.jm_job.specs.declared.job.RunEvents.TheVariants.{Schedule, RoundRobin, Workers}
use Rattle.jm_job.specs.declared.job.RunJob.{RunJob}
use Rattle.jm_job.specs.declared.job.ReplayJob.{ReplayJob}
use Rattle.jm_job.specs.declared.job.ExploreJob.{ExploreJob}
use Rattle.jm_explore.specs.declared.bounds.Bounds.{Bounds}
use Rattle.jm_job.specs.declared.job.Job.{Job}
use Rattle.jm_job.specs.declared.job.DebugJob.{DebugJob}
use Rattle.jm_job.specs.declared.job.DisassembleJob.{DisassembleJob}
use Rattle.jm_job.specs.declared.job.Job.TheVariants.{Run, Replay, Explore, Assemble, Disassemble, Debug}
use Rattle.jm_class_format.specs.ClassFile.{class_file}
use Rattle.jm_execute.specs.ProgramFiles.{in_text, in_class_file, is_text_name, text_class}
use Rattle.jm_execute.specs.Reasons as reason

pub data Work : Type 0 where
  -- the run of a program, over a heap of this limit, by events that are chosen so, and whether its heap is shown at the end
  runs : List ClassParts → ℕ → Choice → Bool → Work
  -- a search of the schedules of a program within bounds, over heaps of this limit, and the outcome whose schedule alone is asked for
  explores : List ClassParts → ℕ → Bounds → Option ℕ → Work
  -- a class, and the bytes that are written for it
  assembles : ClassParts → List ℕ → Work
  -- the text of the class in a file of this name, with comments or without them
  disassembles : List ℕ → Bool → ClassParts → Work
  -- a session of the debugger over a program and a heap of this limit
  debugs : List ClassParts → ℕ → Work

-- why there is none
pub data Cause : Type 0 where
  because : reason.Reason → Cause
  -- memory was refused before the files were known
  unknown : Cause

abbrev pub Verdict : Type 0
Verdict = Result Work Cause

infixl 10 ◌>>=◌
abbrev pub ◌>>=◌ : {A B : Type 0} → Result A Cause → (A → Result B Cause) → Result B Cause
step >>= next = and_then step next

-- ---- files

abbrev pub bytes_in : List ℕ → Contents → Result (List ℕ) Cause
bytes_in name (Bytes bytes) = Ok bytes.items
bytes_in name NotRead = Err (because (reason.not_read name))
bytes_in name OutOfMemory = Err unknown

-- the bytes of a file
abbrev pub bytes_of : InputFile → Result (List ℕ) Cause
bytes_of file = bytes_in (string_bytes file.name) file.contents

-- each of them was read
abbrev pub all_read : List InputFile → Result (Unit {0}) Cause
all_read [] = Ok tt
all_read (file ∷ files) = do
  bytes ← bytes_of file
  all_read files

-- ---- the classes of a program, the main class first

-- the class that a text of this name denotes
abbrev pub denoted_class : List ℕ → List ℕ → Result ClassParts Cause
denoted_class name text = fault_as (λ fault. because (reason.no_class name (in_text fault))) (text_class text)

-- the class that a class file of this name spells
abbrev pub spelled_class : List ℕ → List ℕ → Result ClassParts Cause
spelled_class name bytes = fault_as (λ fault. because (reason.no_class name (in_class_file fault))) (class_file.read bytes)

-- the bytes that are written for the class of a text of this name
abbrev pub written_class : List ℕ → ClassParts → Result (List ℕ) Cause
written_class name class = fault_as (λ fault. because (reason.no_class_file name fault)) (written class)

-- that very class, where a class file can hold it
abbrev pub writable_class : List ℕ → ClassParts → Result ClassParts Cause
writable_class name class = do
  bytes ← written_class name class
  Ok class

-- the class that a text of this name holds: the one that it denotes, where a class file can hold it
abbrev pub held_in_text : List ℕ → List ℕ → Result ClassParts Cause
held_in_text name text = do
  class ← denoted_class name text
  writable_class name class

-- the class that a file of this name with these bytes holds
abbrev pub held_class : List ℕ → List ℕ → Result ClassParts Cause
held_class name bytes = if is_text_name name then held_in_text name bytes else spelled_class name bytes

unfoldable pub class_of : InputFile → Result ClassParts Cause
class_of file = do
  bytes ← bytes_of file
  held_class (string_bytes file.name) bytes

abbrev pub classes_of : List InputFile → Result (List ClassParts) Cause
classes_of [] = Ok []
classes_of (file ∷ files) = do
  class ← class_of file
  classes ← classes_of files
  Ok (class ∷ classes)

-- ---- linking

-- why the classes are not linked, if they are not
abbrev pub link_fault : List ClassParts → Option LinkFault
link_fault program = option_map load_fault (refusal program)

abbrev pub unless_fault : Option LinkFault → List ClassParts → Result (List ClassParts) Cause
unless_fault (Some fault) program = Err (because (reason.not_linked fault))
unless_fault None program = Ok program

abbrev pub linked_program : List ClassParts → Result (List ClassParts) Cause
linked_program program = unless_fault (link_fault program) program

-- ---- a run

-- a program whose first objects are within the heap's limit
abbrev pub loaded_program : ℕ → List ClassParts → Result (List ClassParts) Cause
loaded_program limit program = if is_too_small program limit then Err (because reason.heap_too_small) else Ok program

-- all files are read before the first is looked at
unfoldable pub program_of : ℕ → List InputFile → Result (List ClassParts) Cause
program_of limit files = do
  read ← all_read files
  classes ← classes_of files
  program ← linked_program classes
  loaded_program limit program

abbrev pub events_in : List ℕ → Result (List Event) Cause
events_in text = fault_as (λ line. because (reason.no_event line)) (schedule text)

-- the events that the lines of a schedule's file spell
abbrev pub scheduled_events : InputFile → Result (List Event) Cause
scheduled_events file = do
  text ← bytes_of file
  events_in text

-- where the events are those of a schedule, it was read
abbrev pub events_read : RunEvents → Result (Unit {0}) Cause
events_read (Schedule file) = do
  text ← bytes_of file
  Ok tt
events_read (RoundRobin turns) = Ok tt
events_read (Workers workers) = Ok tt

-- how the events are chosen that are made from a world on
abbrev pub choice_of : RunEvents → World → Result Choice Cause
choice_of (Schedule file) w = do
  events ← scheduled_events file
  Ok (listed events)
choice_of (RoundRobin turns) w = Ok (listed (robin w turns.steps turns.quantum))
choice_of (Workers workers) w = Ok (by_workers workers.count workers.steps)

-- a schedule is read first and looked at last
unfoldable pub run_verdict : RunJob → Verdict
run_verdict job = do
  read ← events_read job.events
  program ← program_of job.heap job.program.items
  choice ← choice_of job.events (loaded_world program job.heap)
  Ok (runs program job.heap choice job.show_heap)

-- ---- a replay

-- the entries that the lines of a record spell
abbrev pub entries_in : List ℕ → Result (List Entry) Cause
entries_in text = fault_as (λ line. because (reason.no_event line)) (record_entries text)

-- a record is read first and looked at last
unfoldable pub replay_verdict : ReplayJob → Verdict
replay_verdict job = do
  text ← bytes_of job.record_file
  program ← program_of job.heap job.program.items
  entries ← entries_in text
  Ok (runs program job.heap (recorded entries) job.show_heap)

-- ---- a search of schedules

unfoldable pub explore_verdict : ExploreJob → Verdict
explore_verdict job = do
  program ← program_of job.heap job.program.items
  Ok (explores program job.heap job.bounds job.outcome)

-- ---- a class file from a text

unfoldable pub assembly_verdict : InputFile → Verdict
assembly_verdict file = do
  text ← bytes_of file
  class ← denoted_class (string_bytes file.name) text
  bytes ← written_class (string_bytes file.name) class
  Ok (assembles class bytes)

-- ---- a text of a class

unfoldable pub disassembly_verdict : DisassembleJob → Verdict
disassembly_verdict job = do
  class ← class_of job.file
  Ok (disassembles (string_bytes job.file.name) (not job.bare) class)

-- ---- a session of the debugger

unfoldable pub debug_verdict : DebugJob → Verdict
debug_verdict job = do
  program ← program_of job.heap job.program.items
  Ok (debugs program job.heap)

-- ---- a job

unfoldable pub verdict : Job → Verdict
verdict (Run job) = run_verdict job
verdict (Replay job) = replay_verdict job
verdict (Explore job) = explore_verdict job
verdict (Assemble job) = assembly_verdict job.text
verdict (Disassemble job) = disassembly_verdict job
verdict (Debug job) = debug_verdict job
