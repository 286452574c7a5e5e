-- Where a job ends with the status of files.
use Rattle.std.proofs.Common.{◌≡◌, ℕ, zero, suc, List, [], ◌∷◌, inl, inr, refl, ap, subst, ◌∙◌, Option, Some, None, Err, Bool, true, false}
use Rattle.std.specs.Prelude.{◌⊎◌, ⊤}
use Rattle.jm_world.specs.World.{World, live_among}
use Rattle.jm_world.specs.declared.stop.Stop.{Stop}
use Rattle.jm_world.specs.declared.stop.Stop.TheVariants.{TagFault, HeapFull, SerialsEnd}
use Rattle.jm_disassembler.specs.Unsaid.{first_unsaid}
use Rattle.jm_disassembler.specs.declared.unsaid.Unsaid.{Unsaid}
use Rattle.jm_execute.specs.ClassTexts.{unsaid_status}
use Rattle.jm_execute.specs.Endings.{Ending, completed, interrupted, differed, explored, assembled, disassembled, answered, exhausted, turned_away, Allows, Hears, status_after}
use Rattle.jm_execute.specs.Talks.{Close, ClosesBy, close_status, call_failed, input_ended, memory_refused}
use Rattle.jm_execute.specs.Written.{Reads, Watch}
use Rattle.jm_execute.specs.Reasons.{Reason, not_read, no_class, no_class_file, not_linked, heap_too_small, no_event, reason_status}
use Rattle.jm_execute.specs.Reports.{any_ended_by, end_status, status_of}
use Rattle.jm_explore.specs.Outcomes.{Thrown, told_end}
use Rattle.jm_explore.specs.declared.exploration.Explored.{Explored}
use Rattle.jm_explore.specs.declared.outcome.HowEnded.{HowEnded}
use Rattle.jm_explore.specs.declared.outcome.HowEnded.TheVariants as how
use Rattle.jm_explore.specs.declared.told.Told.{Told}
use Rattle.jm_explore.specs.declared.unfinished.Unfinished.{Unfinished}
use Rattle.jm_explore.specs.Statuses.{how_status, stop_status}
use Rattle.jm_execute.specs.Explorations.{found_status, lack_of, lack_status, one_status, told_status}
use Rattle.jm_execute.specs.declared.exploring.Lack.{Lack}
use Rattle.jm_execute.specs.declared.exploring.Lack.TheVariants as lacks
use Rattle.jm_execute.specs.Verdicts.{Verdict, because}
use Rattle.jm_explain.specs.declared.status.Status.{Status}
use Rattle.jm_explain.specs.declared.status.Status.TheVariants as ends

abbrev IsFiles : Status → Type 0
IsFiles ends.Done = ⊥
IsFiles ends.CommandLine = ⊥
IsFiles ends.Files = ⊤
IsFiles ends.EndedByException = ⊥
IsFiles ends.Refused = ⊥
IsFiles ends.TagFault = ⊥
IsFiles ends.HeapFull = ⊥
IsFiles ends.OutOfMemory = ⊥
IsFiles ends.NotEnded = ⊥
IsFiles ends.BadSchedule = ⊥
IsFiles ends.SeveralOutcomes = ⊥
IsFiles ends.NotAllTried = ⊥

of_no_run : (stop : Option Stop) (live : ℕ) (ended : Bool) → IsFiles (end_status stop live ended) → ⊥
of_no_run (Some (TagFault fault)) live ended h = h
of_no_run (Some HeapFull) live ended h = h
of_no_run (Some SerialsEnd) live ended h = h
of_no_run None (suc n) ended h = h
of_no_run None zero true h = h
of_no_run None zero false h = h

of_no_world : (w : World) → IsFiles (status_of w) → ⊥
unfolding status_of
of_no_world w h = of_no_run w.stop (live_among w.threads) (any_ended_by w.threads) h

of_a_file : (reason : Reason) → IsFiles (reason_status reason) → (name : List ℕ) × (reason ≡ not_read name)
of_a_file (not_read name) h = (name, refl)
of_a_file (no_class name fault) h = absurd h
of_a_file (no_class_file name fault) h = absurd h
of_a_file (not_linked fault) h = absurd h
of_a_file heap_too_small h = absurd h
of_a_file (no_event line) h = absurd h

of_no_text : (unsaid : Option Unsaid) → IsFiles (unsaid_status unsaid) → ⊥
of_no_text None h = h
of_no_text (Some part) h = h

of_no_stop : (stop : Stop) → IsFiles (stop_status stop) → ⊥
of_no_stop (TagFault fault) h = h
of_no_stop HeapFull h = h
of_no_stop SerialsEnd h = h

of_no_outcome : (h : HowEnded) (thrown : List Thrown) → IsFiles (how_status h thrown) → ⊥
of_no_outcome how.Ended [] h = h
of_no_outcome how.Ended (t ∷ ts) h = h
of_no_outcome (how.Stopped stop) thrown h = of_no_stop stop h
of_no_outcome (how.Deadlock live) thrown h = h
of_no_outcome how.Cut thrown h = h

of_no_one : (why : Option Unfinished) (t : Told) → IsFiles (one_status why t) → ⊥
of_no_one None t h = of_no_outcome t.outcome.how (told_end t.outcome).thrown h
of_no_one (Some why) t h = h

of_none_told : (why : Option Unfinished) (told : List Told) → IsFiles (told_status why told) → ⊥
of_none_told why [] h = h
of_none_told why (t ∷ []) h = of_no_one why t h
of_none_told why (t ∷ u ∷ ts) h = h

of_no_lack : (lack : Option Lack) (told : Status) → (IsFiles told → ⊥) → IsFiles (lack_status lack told) → ⊥
of_no_lack None told none h = none h
of_no_lack (Some lacks.Memory) told none h = h
of_no_lack (Some lacks.Outcome) told none h = h

-- a search has it never
of_no_search : (found : Explored) (wanted : Option ℕ) → IsFiles (found_status found wanted) → ⊥
of_no_search found wanted h = of_no_lack (lack_of found wanted) (told_status found.unfinished found.told.items) (of_none_told found.unfinished found.told.items) h

-- a session has it only where a call failed
of_a_call : {R : Type 0} (r : Reads R) (close : Close) (bytes : List ℕ) (rest : List (Option (List ℕ))) (reader new_reader : Watch R) → IsFiles (close_status close)
    → ClosesBy r false close bytes rest reader new_reader → new_reader.failed ≡ true
of_a_call r input_ended bytes rest reader new_reader h closes = absurd h
of_a_call r memory_refused bytes rest reader new_reader h closes = absurd h
of_a_call r call_failed bytes rest reader new_reader h closes = closes.0.failed

-- of the endings only that of a file that could not be read has it, or a session whose reader failed
pub not_read_where_files : {R : Type 0} (r : Reads R) (v : Verdict) (e : Ending) (failed : Bool) (reader new_reader : Watch R) → failed ≡ false → Allows v e → Hears r failed e reader new_reader
    → ends.Files ≡ status_after e → ((name : List ℕ) × (v ≡ Err (because (not_read name)))) ⊎ (new_reader.failed ≡ true)
not_read_where_files r v (completed shows w) failed reader new_reader whole allows hears h = absurd (of_no_world w (subst IsFiles h tt))
not_read_where_files r v (interrupted w) failed reader new_reader whole allows hears h = absurd (subst IsFiles h tt)
not_read_where_files r v (differed line w) failed reader new_reader whole allows hears h = absurd (subst IsFiles h tt)
not_read_where_files r v (explored b found wanted) failed reader new_reader whole allows hears h = absurd (of_no_search found wanted (subst IsFiles h tt))
not_read_where_files r v (assembled bytes) failed reader new_reader whole allows hears h = absurd (subst IsFiles h tt)
not_read_where_files r v (disassembled name commented class) failed reader new_reader whole allows hears h = absurd (of_no_text (first_unsaid class) (subst IsFiles h tt))
not_read_where_files r v (answered t) failed reader new_reader whole allows hears h =
    inr (of_a_call r t.close hears.bytes hears.rest reader new_reader (subst IsFiles h tt) (subst (λ b. ClosesBy r b t.close hears.bytes hears.rest reader new_reader) whole hears.close))
not_read_where_files r v exhausted failed reader new_reader whole allows hears h = absurd (subst IsFiles h tt)
not_read_where_files r v (turned_away reason) failed reader new_reader whole allows hears h =
    let (name, is) = of_a_file reason (subst IsFiles h tt) in inl (name, allows ∙ ap (λ r. Err (because r)) is)
