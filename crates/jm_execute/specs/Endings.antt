-- How a job ends, and what is told of it.
use Rattle.std.specs.Prelude.{◌≡◌, ◌⊎◌, ℕ, List, [], ◌++◌, Option, Some, None, Ok, Err, Bool, true, false, ⊤}
use Rattle.jm_program.specs.declared.class.ClassParts.{ClassParts}
use Rattle.jm_class_format.specs.ClassFile.{Spells}
use Rattle.jm_world.specs.World.{World}
use Rattle.jm_world.specs.Loading.{loaded_world}
use Rattle.jm_choice.specs.Choices.{Choice, RunEnd, RunEnds, all_made, cut_short, differing}
use Rattle.jm_execute.specs.Reports.{report, heap_shown, memory_line, failure_line, differs_line, status_of}
use Rattle.jm_explore.specs.declared.bounds.Bounds.{Bounds}
use Rattle.jm_explore.specs.declared.exploration.Explored.{Explored}
use Rattle.jm_execute.specs.Explorations.{Finds, found_lines, found_status, found_text}
use Rattle.jm_execute.specs.Reasons.{Reason, reason_status, reason_line}
use Rattle.jm_debug.specs.Session.{session_of}
use Rattle.jm_execute.specs.Talks.{Heard, Talk, close_status, talk_output}
use Rattle.jm_disassembler.specs.Texts.{class_text}
use Rattle.jm_disassembler.specs.Unsaid.{first_unsaid}
use Rattle.jm_execute.specs.ClassTexts.{Denotes, unsaid_status, unsaid_line}
use Rattle.jm_execute.specs.Verdicts.{Verdict, because, runs, explores, assembles, disassembles, debugs}
use Rattle.jm_execute.specs.Written.{Watch, Reads, Words, AllWritten, Broken, Unflushed, WrittenIf}
use Rattle.jm_explain.specs.declared.status.Status.{Status}
use Rattle.jm_explain.specs.declared.status.Status.TheVariants as ends

pub data Ending : Type 0 where
  -- all events were made: whether the heap is shown, and the world to which they lead
  completed : Bool → World → Ending
  -- memory was refused at an event, or at the view of the heap: the world to which those before it lead
  interrupted : World → Ending
  -- the reply to a record's event was of another kind than this line says: the world to which the events up to and with it lead
  differed : ℕ → World → Ending
  -- schedules were tried within these bounds: what was found, and the outcome whose schedule alone is asked for
  explored : Bounds → Explored → Option ℕ → Ending
  -- these bytes of a class file were made
  assembled : List ℕ → Ending
  -- the text of the class in a file of this name was made, with comments or without them
  disassembled : List ℕ → Bool → ClassParts → Ending
  -- lines were answered in a session of the debugger
  answered : Talk → Ending
  -- memory was refused before the first event, before the class file or the text was whole, or before the first line was read
  exhausted : Ending
  -- there was neither a run, nor a search, nor a class file, nor a text, nor a session, for this reason
  turned_away : Reason → Ending

-- the run that the files say, its heap shown at the end or not, ends so
pub record EndsRun (v : Verdict) (shows : Bool) (end : RunEnd) : Type 0 where
  pub program : List ClassParts
  pub limit : ℕ
  pub choice : Choice
  pub runs_is : v ≡ Ok (runs program limit choice shows)
  pub ends : RunEnds (loaded_world program limit) choice end

-- what was found is so of the program that the files say
pub record Explores (v : Verdict) (b : Bounds) (found : Explored) (wanted : Option ℕ) : Type 0 where
  pub program : List ClassParts
  pub limit : ℕ
  pub explores_is : v ≡ Ok (explores program limit b wanted)
  pub finds : Finds (loaded_world program limit) b found

-- the bytes are a class file's, and spell the class that the text denotes (JVMS 4)
pub record Assembles (v : Verdict) (bytes : List ℕ) : Type 0 where
  pub class : ClassParts
  pub assembles_is : v ≡ Ok (assembles class bytes)
  pub spelled : Spells bytes class

-- the class is that of the file, and the text denotes it where each part of it can be said
pub record Disassembles (v : Verdict) (name : List ℕ) (commented : Bool) (class : ClassParts) : Type 0 where
  pub disassembles_is : v ≡ Ok (disassembles name commented class)
  pub denotes : Denotes commented class

-- the session begins with the first world of its program
pub record Debugs (v : Verdict) (t : Talk) : Type 0 where
  pub program : List ClassParts
  pub limit : ℕ
  pub debugs_is : v ≡ Ok (debugs program limit)
  pub first_is : t.first ≡ session_of (loaded_world program limit)

-- the endings of a run from a world on, whose events are chosen so, and whose heap is shown or not: memory may be refused at any time
abbrev pub Ends : Bool → World → Choice → Ending → Type 0
Ends shows first choice (completed shown w) = (shown ≡ shows) × RunEnds first choice (all_made w)
Ends shows first choice (interrupted w) = RunEnds first choice (cut_short w)
Ends shows first choice (differed line w) = RunEnds first choice (differing line w)
Ends shows first choice (explored b found wanted) = ⊥
Ends shows first choice (assembled bytes) = ⊥
Ends shows first choice (disassembled name commented class) = ⊥
Ends shows first choice (answered t) = ⊥
Ends shows first choice exhausted = ⊤
Ends shows first choice (turned_away reason) = ⊥

-- the endings of a run whose events were all made, in the world to which they led: memory may be refused to the view of the heap
abbrev pub EndsIn : Bool → World → Ending → Type 0
EndsIn shows last (completed shown w) = (shown ≡ shows) × (w ≡ last)
EndsIn shows last (interrupted w) = w ≡ last
EndsIn shows last (differed line w) = ⊥
EndsIn shows last (explored b found wanted) = ⊥
EndsIn shows last (assembled bytes) = ⊥
EndsIn shows last (disassembled name commented class) = ⊥
EndsIn shows last (answered t) = ⊥
EndsIn shows last exhausted = ⊥
EndsIn shows last (turned_away reason) = ⊥

-- the endings that the files allow: memory may be refused at any time
abbrev pub Allows : Verdict → Ending → Type 0
Allows v (completed shows w) = EndsRun v shows (all_made w)
Allows v (interrupted w) = (shows : Bool) × EndsRun v shows (cut_short w)
Allows v (differed line w) = (shows : Bool) × EndsRun v shows (differing line w)
Allows v (explored b found wanted) = Explores v b found wanted
Allows v (assembled bytes) = Assembles v bytes
Allows v (disassembled name commented class) = Disassembles v name commented class
Allows v (answered t) = Debugs v t
Allows v exhausted = ⊤
Allows v (turned_away reason) = v ≡ Err (because reason)

abbrev pub output_of : Ending → List ℕ
output_of (completed shows w) = w.output
output_of (interrupted w) = w.output
output_of (differed line w) = w.output
output_of (explored b found wanted) = found_text b found wanted
output_of (assembled bytes) = bytes
output_of (disassembled name commented class) = class_text commented class
output_of (answered t) = talk_output t
output_of exhausted = []
output_of (turned_away reason) = []

abbrev pub status_after : Ending → Status
status_after (completed shows w) = status_of w
status_after (interrupted w) = ends.OutOfMemory
status_after (differed line w) = ends.BadSchedule
status_after (explored b found wanted) = found_status found wanted
status_after (assembled bytes) = ends.Done
status_after (disassembled name commented class) = unsaid_status (first_unsaid class)
status_after (answered t) = close_status t.close
status_after exhausted = ends.OutOfMemory
status_after (turned_away reason) = reason_status reason

-- the lines on standard error
abbrev pub lines_after : Ending → List ℕ
lines_after (completed shows w) = report w ++ heap_shown shows w
lines_after (interrupted w) = memory_line
lines_after (differed line w) = differs_line line
lines_after (explored b found wanted) = found_lines found wanted
lines_after (assembled bytes) = []
lines_after (disassembled name commented class) = unsaid_line name (first_unsaid class)
lines_after (answered t) = []
lines_after exhausted = memory_line
lines_after (turned_away reason) = reason_line reason

-- the lines where the output could not be written whole; the name of a class file's output stands in no ending
abbrev pub lines_at_failure : Ending → Option (List ℕ)
lines_at_failure (completed shows w) = Some failure_line
lines_at_failure (interrupted w) = Some failure_line
lines_at_failure (differed line w) = Some failure_line
lines_at_failure (explored b found wanted) = Some failure_line
lines_at_failure (assembled bytes) = None
lines_at_failure (disassembled name commented class) = Some failure_line
lines_at_failure (answered t) = Some failure_line
lines_at_failure exhausted = None
lines_at_failure (turned_away reason) = None

-- it is that of a session, which alone reads, and flushes what it writes
abbrev pub IsTalk : Ending → Type 0
IsTalk (completed shows w) = ⊥
IsTalk (interrupted w) = ⊥
IsTalk (differed line w) = ⊥
IsTalk (explored b found wanted) = ⊥
IsTalk (assembled bytes) = ⊥
IsTalk (disassembled name commented class) = ⊥
IsTalk (answered t) = ⊤
IsTalk exhausted = ⊥
IsTalk (turned_away reason) = ⊥

-- what was read in a session; at any other ending nothing was
abbrev pub Hears : {R : Type 0} → Reads R → Bool → Ending → Watch R → Watch R → Type 0
Hears r out_failed (completed shows w) reader new_reader = new_reader ≡ reader
Hears r out_failed (interrupted w) reader new_reader = new_reader ≡ reader
Hears r out_failed (differed line w) reader new_reader = new_reader ≡ reader
Hears r out_failed (explored b found wanted) reader new_reader = new_reader ≡ reader
Hears r out_failed (assembled bytes) reader new_reader = new_reader ≡ reader
Hears r out_failed (disassembled name commented class) reader new_reader = new_reader ≡ reader
Hears r out_failed (answered t) reader new_reader = Heard r out_failed t reader new_reader
Hears r out_failed exhausted reader new_reader = new_reader ≡ reader
Hears r out_failed (turned_away reason) reader new_reader = new_reader ≡ reader

-- Lines are told; where the writer has failed, a beginning of them stands. Where no definition says which lines, some are told.
abbrev pub LinesTold : {W : Type 0} → Words W → Option (List ℕ) → Bool → Watch W → Watch W → Type 0
LinesTold says None failed old new = (lines : List ℕ) × WrittenIf failed says old new lines
LinesTold says (Some lines) failed old new = WrittenIf failed says old new lines

-- the line that says that the output could not be written whole, where that is so
abbrev pub FailureTold : {W : Type 0} → Words W → Bool → Watch W → Watch W → Type 0
FailureTold says true old new = LinesTold says (Some failure_line) new.failed old new
FailureTold says false old new = new ≡ old

-- the status is the ending's, and its lines are told
abbrev pub Tells : {W : Type 0} → Words W → Ending → Status → Watch W → Watch W → Type 0
Tells says e status err new_err = (status ≡ status_after e) × LinesTold says (Some (lines_after e)) new_err.failed err new_err

abbrev pub LeavesIf : {O E : Type 0} → Bool → Words O → Words E → Ending → Status → Watch O → Watch O → Watch E → Watch E → Type 0
LeavesIf false o w e status out new_out err new_err = AllWritten o out new_out (output_of e) × Tells w e status err new_err
LeavesIf true o w e status out new_out err new_err =
    (Broken o out new_out (output_of e) ⊎ (IsTalk e × Unflushed o out new_out (output_of e))) × (status ≡ ends.Files)
    × LinesTold w (lines_at_failure e) new_err.failed err new_err

-- What a job leaves behind: the output is written, then the lines, and the status is the ending's.
-- Where a write of the output failed, a beginning of it stands, and the status says so.
abbrev pub Leaves : {O E : Type 0} → Words O → Words E → Ending → Status → Watch O → Watch O → Watch E → Watch E → Type 0
Leaves o w e status out new_out err new_err = LeavesIf new_out.failed o w e status out new_out err new_err

-- what a search leaves behind: what was found is told, or memory was refused to the text of it, and nothing is written
abbrev pub LeavesFound : {O E : Type 0} → Words O → Words E → Bounds → Explored → Option ℕ → Status → Watch O → Watch O → Watch E → Watch E → Type 0
LeavesFound o w b found wanted status out new_out err new_err =
    Leaves o w (explored b found wanted) status out new_out err new_err ⊎ Leaves o w exhausted status out new_out err new_err

-- A job with this verdict is done: it ends as the verdict allows, has read what that ending says, and leaves its output, status and lines.
abbrev pub IsDone : {R O E : Type 0} → Reads R → Words O → Words E → Verdict → Status → Watch R → Watch R → Watch O → Watch O → Watch E → Watch E → Type 0
IsDone r o w v status reader new_reader out new_out err new_err =
    (e : Ending) × Allows v e × Hears r new_out.failed e reader new_reader × Leaves o w e status out new_out err new_err

-- the same of a job for which nothing is read
abbrev pub IsDoneUnread : {O E : Type 0} → Words O → Words E → Verdict → Status → Watch O → Watch O → Watch E → Watch E → Type 0
IsDoneUnread o w v status out new_out err new_err = (e : Ending) × Allows v e × (IsTalk e → ⊥) × Leaves o w e status out new_out err new_err
