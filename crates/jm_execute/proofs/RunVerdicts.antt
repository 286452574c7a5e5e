-- The verdict of a run, one step after the other.
use Rattle.std.proofs.Common.{◌≡◌, ℕ, List, refl, ap, sym, subst, ◌∙◌, Result, Ok, Err}
use Rattle.std.specs.Prelude.{IfOk}
use Rattle.jm_program.specs.declared.class.ClassParts.{ClassParts}
use Rattle.jm_world.specs.Loading.{loaded_world}
use Rattle.jm_world.specs.World.{World}
use Rattle.jm_choice.specs.Choices.{Choice}
use Rattle.jm_execute.specs.Refusals.{Gives, Hinders}
use Rattle.jm_execute.specs.Verdicts.{Verdict, debug_verdict, debugs, explore_verdict, explores, events_read, choice_of, program_of, run_verdict, runs, ◌>>=◌}
use Rattle.jm_job.specs.declared.job.InputFile.{InputFile}
use Rattle.jm_job.specs.declared.job.DebugJob.{DebugJob}
use Rattle.jm_job.specs.declared.job.ExploreJob.{ExploreJob}
use Rattle.jm_job.specs.declared.job.RunJob.{RunJob}
use Rattle.jm_execute.specs.declared.refusal.Obstacle.{Obstacle}
use Rattle.jm_execute.proofs.Chains.{hindered}

-- the steps behind the program, and behind what says the events
abbrev behind_program : RunJob → List ClassParts → Verdict
behind_program job program = choice_of job.events (loaded_world program job.heap) >>= (λ choice. Ok (runs program job.heap choice job.show_heap))

abbrev behind_reading : RunJob → Unit {0} → Verdict
behind_reading job read = program_of job.heap job.program.items >>= behind_program job

module _ (job : RunJob) where
  by_steps : run_verdict job ≡ (events_read job.events >>= behind_reading job)
  unfolding run_verdict
  by_steps = refl

  pub not_read : (o : Obstacle) → Hinders (events_read job.events) o → Hinders (run_verdict job) o
  not_read o h = subst (λ v. Hinders v o) (sym by_steps) (hindered (events_read job.events) (behind_reading job) o h)

  module _ (read : events_read job.events ≡ Ok tt) (limit : ℕ) (files : List InputFile) (limit_is : limit ≡ job.heap) (files_are : files ≡ job.program.items) where
    goes_on : run_verdict job ≡ behind_reading job tt
    goes_on = by_steps ∙ ap (λ step. step >>= behind_reading job) read

    same_program : program_of limit files ≡ program_of job.heap job.program.items
    same_program = ap (λ n. program_of n files) limit_is ∙ ap (program_of job.heap) files_are

    pub no_program : (o : Obstacle) → Hinders (program_of limit files) o → Hinders (run_verdict job) o
    no_program o h =
        let here = subst (λ v. Hinders v o) same_program h in
        subst (λ v. Hinders v o) (sym goes_on) (hindered (program_of job.heap job.program.items) (behind_program job) o here)

    module _ (program : List ClassParts) (program_is : program_of limit files ≡ Ok program) where
      goes_further : run_verdict job ≡ behind_program job program
      goes_further = goes_on ∙ ap (λ step. step >>= behind_program job) (sym same_program ∙ program_is)

      pub no_choice : (o : Obstacle) → Hinders (choice_of job.events (loaded_world program job.heap)) o → Hinders (run_verdict job) o
      no_choice o h =
          let choice = choice_of job.events (loaded_world program job.heap) in
          subst (λ v. Hinders v o) (sym goes_further) (hindered choice (λ c. Ok (runs program job.heap c job.show_heap)) o h)

      pub prepared : (choice : Choice) → choice_of job.events (loaded_world program job.heap) ≡ Ok choice → run_verdict job ≡ Ok (runs program job.heap choice job.show_heap)
      prepared choice is = goes_further ∙ ap (λ step. step >>= (λ c. Ok (runs program job.heap c job.show_heap))) is

    -- a machine with where its events come from
    pub sourced : {T M S : Type 0} (first : T → M) (second : T → S) (view : M → List ClassParts) (made : S → World → Choice) (m : M)
        → program_of limit files ≡ Ok (view m) → (r : Result T Obstacle)
        → Gives r (choice_of job.events (loaded_world (view m) job.heap)) (λ ready. made (second ready) (loaded_world (view m) job.heap))
        → IfOk r (λ ready. first ready ≡ m)
        → Gives r (run_verdict job) (λ ready. runs (view (first ready)) job.heap (made (second ready) (loaded_world (view (first ready)) job.heap)) job.show_heap)
    sourced first second view made m is (Ok ready) h same =
        let now = prepared (view m) is (made (second ready) (loaded_world (view m) job.heap)) h in
        subst (λ n. run_verdict job ≡ Ok (runs (view n) job.heap (made (second ready) (loaded_world (view n) job.heap)) job.show_heap)) (sym same) now
    sourced first second view made m is (Err o) h same = no_choice (view m) is o h

-- what holds of a machine holds of it with where its events come from
pub kept_with : {T M : Type 0} (first : T → M) (P : M → Type 0) (m : M) (r : Result T Obstacle) → IfOk r (λ ready. first ready ≡ m) → P m → IfOk r (λ ready. P (first ready))
kept_with first P m (Ok ready) same p = subst P (sym same) p
kept_with first P m (Err o) same p = tt

-- ---- a session

debug_steps : (job : DebugJob) → debug_verdict job ≡ (program_of job.heap job.program.items >>= (λ program. Ok (debugs program job.heap)))
unfolding debug_verdict
debug_steps job = refl

module _ (job : DebugJob) (limit : ℕ) (files : List InputFile) (limit_is : limit ≡ job.heap) (files_are : files ≡ job.program.items) where
  same_files : program_of limit files ≡ program_of job.heap job.program.items
  same_files = ap (λ n. program_of n files) limit_is ∙ ap (program_of job.heap) files_are

  pub debugged : {M : Type 0} (program : M → List ClassParts) (r : Result M Obstacle) → Gives r (program_of limit files) program → Gives r (debug_verdict job) (λ m. debugs (program m) job.heap)
  debugged program (Ok m) is = debug_steps job ∙ ap (λ step. step >>= (λ program. Ok (debugs program job.heap))) (sym same_files ∙ is)
  debugged program (Err o) h =
      subst (λ v. Hinders v o) (sym (debug_steps job)) (hindered (program_of job.heap job.program.items) (λ program. Ok (debugs program job.heap)) o (subst (λ v. Hinders v o) same_files h))

-- ---- a search

explore_steps : (job : ExploreJob) → explore_verdict job ≡ (program_of job.heap job.program.items >>= (λ program. Ok (explores program job.heap job.bounds job.outcome)))
unfolding explore_verdict
explore_steps job = refl

module _ (job : ExploreJob) (limit : ℕ) (files : List InputFile) (limit_is : limit ≡ job.heap) (files_are : files ≡ job.program.items) where
  files_of_search : program_of limit files ≡ program_of job.heap job.program.items
  files_of_search = ap (λ n. program_of n files) limit_is ∙ ap (program_of job.heap) files_are

  pub searched : {M : Type 0} (program : M → List ClassParts) (r : Result M Obstacle) → Gives r (program_of limit files) program
      → Gives r (explore_verdict job) (λ m. explores (program m) job.heap job.bounds job.outcome)
  searched program (Ok m) is = explore_steps job ∙ ap (λ step. step >>= (λ program. Ok (explores program job.heap job.bounds job.outcome))) (sym files_of_search ∙ is)
  searched program (Err o) h =
      let next = λ (program : List ClassParts). Ok (explores program job.heap job.bounds job.outcome) in
      subst (λ v. Hinders v o) (sym (explore_steps job)) (hindered (program_of job.heap job.program.items) next o (subst (λ v. Hinders v o) files_of_search h))
