-- What is kept of a run that was made whole, from a journal to the files.
use Rattle.std.specs.declared.alloc.Global.{Global}
use Rattle.std.proofs.Common.{sym, subst, ◌≡◌, ℕ, List, Option, Some, None, Bool, true, false, Ok, Vec}
use Rattle.jm_program.specs.declared.class.ClassParts.{ClassParts}
use Rattle.jm_heap.specs.declared.heap.Kind.{Kind}
use Rattle.jm_world.specs.Loading.{loaded_world}
use Rattle.jm_world.specs.World.{World}
use Rattle.jm_world.specs.declared.event.Event.{Event}
use Rattle.jm_shared.specs.Legal.{world_after}
use Rattle.jm_shared.specs.Records.{record_text}
use Rattle.jm_shared.specs.declared.entry.Entry.{Entry}
use Rattle.jm_choice.specs.Choices.{Choice, listed}
use Rattle.jm_job.specs.declared.job.Job.{Job}
use Rattle.jm_execute.specs.Endings.{Ending, completed, interrupted, differed, explored, assembled, disassembled, answered, exhausted, turned_away, Ends, EndsIn, IsDone, Leaves}
use Rattle.jm_execute.specs.KeptRecords.{IsFinished, IsJournal, IsKept, IsKeptIf, IsRecord, IsRecordOf, JobKeeps, made_whole}
use Rattle.jm_execute.specs.Verdicts.{Verdict, runs, verdict}
use Rattle.jm_execute.specs.Written.{Watch, Reads, Words}
use Rattle.jm_execute.specs.declared.finished.Finished.{Finished}
use Rattle.jm_explain.specs.declared.status.Status.{Status}

-- a run by the same events
pub run_of : {O E : Type 0} (o : Words O) (w : Words E) (shows wanted : Bool) (stress : Option Kind) (first : World) (events others : List Event) (f : Finished) (out new_out : Watch O) (err new_err : Watch E)
    → events ≡ others
    → (e : Ending) × Ends shows first (listed events) e × Leaves o w e f.status out new_out err new_err × IsKeptIf (made_whole e) wanted (IsRecord stress first (listed events)) f.record_text
    → (e : Ending) × Ends shows first (listed others) e × Leaves o w e f.status out new_out err new_err × IsKeptIf (made_whole e) wanted (IsRecord stress first (listed others)) f.record_text
run_of o w shows wanted stress first events others f out new_out err new_err same run =
    subst (λ es. (e : Ending) × Ends shows first (listed es) e × Leaves o w e f.status out new_out err new_err × IsKeptIf (made_whole e) wanted (IsRecord stress first (listed es)) f.record_text) same run

-- what holds of each text that is kept
kept_as : (wanted : Bool) (kept : Option (Vec ℕ Global)) {P Q : List ℕ → Type 0} → ((text : List ℕ) → P text → Q text) → IsKept wanted P kept → IsKept wanted Q kept
kept_as false kept gives is = is
kept_as true None gives is = absurd is
kept_as true (Some text) gives is = gives text.items is

pub kept_if : (whole : Option World) (wanted : Bool) (kept : Option (Vec ℕ Global)) {P Q : World → List ℕ → Type 0} → ((last : World) (text : List ℕ) → P last text → Q last text)
    → IsKeptIf whole wanted P kept → IsKeptIf whole wanted Q kept
kept_if None wanted kept gives is = is
kept_if (Some last) wanted kept gives is = kept_as wanted kept (gives last) is

-- the lines of the journal of a run that was made whole
pub recorded : (stress : Option Kind) (first : World) (choice : Choice) (entries : List Entry) (shows wanted : Bool) (kept : Option (Vec ℕ Global)) (e : Ending)
    → IsJournal stress first choice entries → EndsIn shows (world_after first entries) e
    → IsKeptIf (made_whole e) wanted (λ _ text. text ≡ record_text entries) kept → IsKeptIf (made_whole e) wanted (IsRecord stress first choice) kept
recorded stress first choice entries shows wanted kept (completed shown w) journal ends is =
    kept_as wanted kept (λ text lines. record { entries = entries; journal = journal; leads = ends.1; lines = lines }) is
recorded stress first choice entries shows wanted kept (interrupted w) journal ends is = is
recorded stress first choice entries shows wanted kept (differed line w) journal ends is = is
recorded stress first choice entries shows wanted kept (explored b found asked) journal ends is = is
recorded stress first choice entries shows wanted kept (assembled bytes) journal ends is = is
recorded stress first choice entries shows wanted kept (disassembled name commented class) journal ends is = is
recorded stress first choice entries shows wanted kept (answered t) journal ends is = is
recorded stress first choice entries shows wanted kept exhausted journal ends is = is
recorded stress first choice entries shows wanted kept (turned_away reason) journal ends is = is

-- it is the run that the files say
pub recorded_of : (v : Verdict) (stress : Option Kind) (program : List ClassParts) (limit : ℕ) (choice : Choice) (shows wanted : Bool) (kept : Option (Vec ℕ Global)) (whole : Option World)
    → v ≡ Ok (runs program limit choice shows) → IsKeptIf whole wanted (IsRecord stress (loaded_world program limit) choice) kept → IsKeptIf whole wanted (IsRecordOf v stress) kept
recorded_of v stress program limit choice shows wanted kept whole is =
    kept_if whole wanted kept (λ last text it. record { program = program; limit = limit; choice = choice; shows = shows; runs_is = is; it = it })

-- a job that keeps no record
pub finished : {R O E : Type 0} (r : Reads R) (o : Words O) (w : Words E) (job : Job) (f : Finished) (status : Status) (reader new_reader : Watch R) (out new_out : Watch O) (err new_err : Watch E)
    → f.status ≡ status → IsDone r o w (verdict job) status reader new_reader out new_out err new_err → ((e : Ending) → JobKeeps job e f.record_text)
    → IsFinished r o w job f reader new_reader out new_out err new_err
finished r o w job f status reader new_reader out new_out err new_err is (e, allows, hears, leaves) keeps =
    (e, allows, hears, subst (λ s. Leaves o w e s out new_out err new_err) (sym is) leaves, keeps e)
