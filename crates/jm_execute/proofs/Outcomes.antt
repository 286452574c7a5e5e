-- What is told of an outcome is what a run says that comes to its world.
use Rattle.std.proofs.Common.{◌≡◌, ◌≢◌, ℕ, zero, suc, List, [], ◌∷◌, ◌++◌, Option, Some, None, Bool, true, false, refl, ap, ap₂, ◌+◌, codes}
use Rattle.std.specs.Prelude.{is_some, ◌||◌}
use Rattle.jm_world.specs.World.{World, Thread, live_among}
use Rattle.jm_world.specs.declared.stop.Stop.{Stop}
use Rattle.jm_machine.specs.Threads.{class_of_ending}
use Rattle.jm_explore.specs.Outcomes.{Thrown, end_of, end_with, how_ended, thrown_by, thrown_from}
use Rattle.jm_explore.specs.declared.outcome.HowEnded.{HowEnded}
use Rattle.jm_explore.specs.declared.outcome.HowEnded.TheVariants as how
use Rattle.jm_explore.specs.OutcomeTexts as told
use Rattle.jm_explore.specs.Statuses.{has_thrown, ended_status, outcome_status}
use Rattle.jm_machine.specs.EndTexts as line
use Rattle.jm_execute.specs.Reports as run

-- ---- the status

one_thread : (n : ℕ) (class : Option (List ℕ)) (rest : List Thrown) (ended : Bool) → has_thrown rest ≡ ended → has_thrown (thrown_by n class ++ rest) ≡ (is_some class || ended)
one_thread n None rest ended same = same
one_thread n (Some class) rest ended same = refl

all_threads : (n : ℕ) (ts : List Thread) → has_thrown (thrown_from n ts) ≡ run.any_ended_by ts
all_threads n [] = refl
all_threads n (t ∷ ts) = one_thread n (class_of_ending t.ending) (thrown_from (n + 1) ts) (run.any_ended_by ts) (all_threads (n + 1) ts)

by_status : (stop : Option Stop) (live : ℕ) (cut : Bool) (w : World) → outcome_status (end_with (how_ended stop live cut) w) ≡ run.end_status stop live (run.any_ended_by w.threads)
by_status (Some stop) live cut w = refl
by_status None zero cut w = ap ended_status (all_threads 1 w.threads)
by_status None (suc n) true w = refl
by_status None (suc n) false w = refl

pub status_is : (w : World) (cut : Bool) → outcome_status (end_of w cut) ≡ run.status_of w
unfolding run.status_of
status_is w cut = by_status w.stop (live_among w.threads) cut w

-- ---- the lines

one_line : (n : ℕ) (class : Option (List ℕ)) (rest : List Thrown) (text : List ℕ) → told.thrown_lines rest ≡ text
    → told.thrown_lines (thrown_by n class ++ rest) ≡ run.thread_line n class ++ text
one_line n None rest text same = same
one_line n (Some class) rest text same = ap (λ (t : List ℕ). line.ended_line n class ++ t) same

all_lines : (n : ℕ) (ts : List Thread) → told.thrown_lines (thrown_from n ts) ≡ run.thread_lines n ts
all_lines n [] = refl
all_lines n (t ∷ ts) = one_line n (class_of_ending t.ending) (thrown_from (n + 1) ts) (run.thread_lines (n + 1) ts) (all_lines (n + 1) ts)

stop_line : (stop : Stop) → told.last_line (how.Stopped stop) ≡ run.last_line (Some stop) 0
stop_line stop = refl

live_lines : (n : ℕ) → told.last_line (how.Deadlock (suc n)) ≡ run.live_line (suc n)
live_lines n = refl

by_lines : (stop : Option Stop) (live : ℕ) (cut : Bool) (w : World) → how_ended stop live cut ≢ how.Cut
    → told.outcome_lines (end_with (how_ended stop live cut) w) ≡ run.thread_lines 1 w.threads ++ run.last_line stop live
by_lines (Some stop) live cut w whole = ap₂ (λ (a b : List ℕ). a ++ b) (all_lines 1 w.threads) (stop_line stop)
by_lines None zero cut w whole = ap (λ (a : List ℕ). a ++ []) (all_lines 1 w.threads)
by_lines None (suc n) true w whole = absurd (whole refl)
by_lines None (suc n) false w whole = ap₂ (λ (a b : List ℕ). a ++ b) (all_lines 1 w.threads) (live_lines n)

pub lines_are : (w : World) (cut : Bool) → how_ended w.stop (live_among w.threads) cut ≢ how.Cut → told.outcome_lines (end_of w cut) ≡ run.report w
unfolding run.report
lines_are w cut whole = by_lines w.stop (live_among w.threads) cut w whole

-- ---- the output

by_output : (h : HowEnded) (w : World) → h ≢ how.Cut → (end_with h w).output ≡ w.output
by_output how.Ended w whole = refl
by_output (how.Stopped stop) w whole = refl
by_output (how.Deadlock live) w whole = refl
by_output how.Cut w whole = absurd (whole refl)

pub output_is : (w : World) (cut : Bool) → how_ended w.stop (live_among w.threads) cut ≢ how.Cut → (end_of w cut).output ≡ w.output
output_is w cut whole = by_output (how_ended w.stop (live_among w.threads) cut) w whole
