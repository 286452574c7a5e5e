-- The record that a run leaves behind.
use Rattle.std.specs.declared.alloc.Global.{Global}
use Rattle.std.specs.Prelude.{◌≡◌, ℕ, List, Vec, Option, Some, None, Bool, true, false, Ok}
use Rattle.std.specs.List.{All}
use Rattle.jm_program.specs.declared.class.ClassParts.{ClassParts}
use Rattle.jm_heap.specs.declared.heap.Kind.{Kind}
use Rattle.jm_world.specs.Loading.{loaded_world}
use Rattle.jm_world.specs.World.{World}
use Rattle.jm_shared.specs.Legal.{IsLegal, events_of, world_after}
use Rattle.jm_shared.specs.Records.{record_text}
use Rattle.jm_shared.specs.declared.entry.Entry.{Entry}
use Rattle.jm_choice.specs.Choices.{Choice, HaveMade, listed, by_workers, recorded}
use Rattle.jm_job.specs.declared.job.Job.{Job}
use Rattle.jm_job.specs.declared.job.Job.TheVariants as jobs
use Rattle.jm_execute.specs.Collecting.{IsOwnOrCollects, own_seat, with_collections}
use Rattle.jm_execute.specs.Endings.{Ending, completed, interrupted, differed, explored, assembled, disassembled, answered, exhausted, turned_away, Allows, Hears, Leaves}
use Rattle.jm_execute.specs.Verdicts.{Verdict, run_verdict, runs, verdict}
use Rattle.jm_execute.specs.Written.{Watch, Reads, Words}
use Rattle.jm_execute.specs.declared.finished.Finished.{Finished}

-- The journal of a run whose events were all made: they are the events of the schedule or of the round robin, with a collection before each and
-- one behind the last where such are asked for; or what the workers' rule has each worker make.
abbrev pub IsJournal : Option Kind → World → Choice → List Entry → Type 0
IsJournal stress first (listed events) entries = IsLegal first entries × All (IsOwnOrCollects (own_seat stress)) entries × (events_of entries ≡ with_collections stress events)
IsJournal stress first (by_workers workers steps) entries = HaveMade first workers steps entries
IsJournal stress first (recorded lines) entries = ⊥

-- a text is the lines of such a journal, and that journal leads to this world
pub record IsRecord (stress : Option Kind) (first : World) (choice : Choice) (last : World) (text : List ℕ) : Type 0 where
  pub entries : List Entry
  pub journal : IsJournal stress first choice entries
  pub leads : last ≡ world_after first entries
  pub lines : text ≡ record_text entries

-- the same of the run that the files say
pub record IsRecordOf (v : Verdict) (stress : Option Kind) (last : World) (text : List ℕ) : Type 0 where
  pub program : List ClassParts
  pub limit : ℕ
  pub choice : Choice
  pub shows : Bool
  pub runs_is : v ≡ Ok (runs program limit choice shows)
  pub it : IsRecord stress (loaded_world program limit) choice last text

-- the world in which a run was made whole
abbrev pub made_whole : Ending → Option World
made_whole (completed shows w) = Some w
made_whole (interrupted w) = None
made_whole (differed line w) = None
made_whole (explored b found wanted) = None
made_whole (assembled bytes) = None
made_whole (disassembled name commented class) = None
made_whole (answered t) = None
made_whole exhausted = None
made_whole (turned_away reason) = None

-- there is such a text exactly where one is wanted
abbrev pub IsKept : Bool → (List ℕ → Type 0) → Option (Vec ℕ Global) → Type 0
IsKept false P kept = kept ≡ None
IsKept true P None = ⊥
IsKept true P (Some text) = P text.items

-- and where the run was made whole
abbrev pub IsKeptIf : Option World → Bool → (World → List ℕ → Type 0) → Option (Vec ℕ Global) → Type 0
IsKeptIf None wanted P kept = kept ≡ None
IsKeptIf (Some last) wanted P kept = IsKept wanted (P last) kept

-- what a job leaves behind of a record: that of a run which was made whole, where one is wanted
abbrev pub JobKeeps : Job → Ending → Option (Vec ℕ Global) → Type 0
JobKeeps (jobs.Run job) e kept = IsKeptIf (made_whole e) job.is_recorded (IsRecordOf (run_verdict job) job.stress) kept
JobKeeps (jobs.Replay job) e kept = kept ≡ None
JobKeeps (jobs.Explore job) e kept = kept ≡ None
JobKeeps (jobs.Assemble job) e kept = kept ≡ None
JobKeeps (jobs.Disassemble job) e kept = kept ≡ None
JobKeeps (jobs.Debug job) e kept = kept ≡ None

-- A job is done: it ends as its files allow, has read what that ending says, and leaves its output, status, lines and record.
abbrev pub IsFinished : {R O E : Type 0} → Reads R → Words O → Words E → Job → Finished → Watch R → Watch R → Watch O → Watch O → Watch E → Watch E → Type 0
IsFinished r o w job finished reader new_reader out new_out err new_err =
    (e : Ending) × Allows (verdict job) e × Hears r new_out.failed e reader new_reader × Leaves o w e finished.status out new_out err new_err
    × JobKeeps job e finished.record_text
