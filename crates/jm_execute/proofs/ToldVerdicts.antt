-- The verdict of a run that is told, one step after the other.
use Rattle.std.proofs.Common.{◌≡◌, ℕ, List, refl, ap, sym, subst, ◌∙◌, Result, Ok, Err}
use Rattle.std.specs.Prelude.{IfOk}
use Rattle.jm_program.specs.declared.class.ClassParts.{ClassParts}
use Rattle.jm_world.specs.Loading.{loaded_world}
use Rattle.jm_world.specs.World.{World}
use Rattle.jm_world.specs.declared.event.Event.{Event}
use Rattle.jm_execute.specs.Tellings.{ToldRun, due_of, due_read, told_run, told_verdict}
use Rattle.jm_execute.specs.Refusals.{Gives, Hinders}
use Rattle.jm_execute.specs.Verdicts.{Cause, program_of, ◌>>=◌}
use Rattle.jm_job.specs.declared.told_job.ToldJob.{ToldJob}
use Rattle.jm_job.specs.declared.job.InputFile.{InputFile}
use Rattle.jm_execute.specs.declared.refusal.Obstacle.{Obstacle}
use Rattle.jm_execute.proofs.Chains.{hindered}

-- the steps behind the program, and behind what says the events
abbrev behind_program : ToldJob → List ClassParts → Result ToldRun Cause
behind_program job program = due_of job.events (loaded_world program job.heap) >>= (λ events. Ok (told_run program job.heap events))

abbrev behind_reading : ToldJob → Unit {0} → Result ToldRun Cause
behind_reading job read = program_of job.heap job.program.items >>= behind_program job

module _ (job : ToldJob) where
  by_steps : told_verdict job ≡ (due_read job.events >>= behind_reading job)
  unfolding told_verdict
  by_steps = refl

  pub not_read : (o : Obstacle) → Hinders (due_read job.events) o → Hinders (told_verdict job) o
  not_read o h = subst (λ v. Hinders v o) (sym by_steps) (hindered (due_read job.events) (behind_reading job) o h)

  module _ (read : due_read job.events ≡ Ok tt) (limit : ℕ) (files : List InputFile) (limit_is : limit ≡ job.heap) (files_are : files ≡ job.program.items) where
    goes_on : told_verdict job ≡ behind_reading job tt
    goes_on = by_steps ∙ ap (λ step. step >>= behind_reading job) read

    same_program : program_of limit files ≡ program_of job.heap job.program.items
    same_program = ap (λ n. program_of n files) limit_is ∙ ap (program_of job.heap) files_are

    pub no_program : (o : Obstacle) → Hinders (program_of limit files) o → Hinders (told_verdict job) o
    no_program o h =
        let here = subst (λ v. Hinders v o) same_program h in
        subst (λ v. Hinders v o) (sym goes_on) (hindered (program_of job.heap job.program.items) (behind_program job) o here)

    module _ (program : List ClassParts) (program_is : program_of limit files ≡ Ok program) where
      goes_further : told_verdict job ≡ behind_program job program
      goes_further = goes_on ∙ ap (λ step. step >>= behind_program job) (sym same_program ∙ program_is)

      no_events : (o : Obstacle) → Hinders (due_of job.events (loaded_world program job.heap)) o → Hinders (told_verdict job) o
      no_events o h =
          let due = due_of job.events (loaded_world program job.heap) in
          subst (λ v. Hinders v o) (sym goes_further) (hindered due (λ es. Ok (told_run program job.heap es)) o h)

      prepared : (events : List Event) → due_of job.events (loaded_world program job.heap) ≡ Ok events → told_verdict job ≡ Ok (told_run program job.heap events)
      prepared events is = goes_further ∙ ap (λ step. step >>= (λ es. Ok (told_run program job.heap es))) is

    -- a machine with where its events come from
    pub sourced : {T M S : Type 0} (first : T → M) (second : T → S) (view : M → List ClassParts) (made : S → World → List Event) (m : M)
        → program_of limit files ≡ Ok (view m) → (r : Result T Obstacle)
        → Gives r (due_of job.events (loaded_world (view m) job.heap)) (λ ready. made (second ready) (loaded_world (view m) job.heap))
        → IfOk r (λ ready. first ready ≡ m)
        → Gives r (told_verdict job) (λ ready. told_run (view (first ready)) job.heap (made (second ready) (loaded_world (view (first ready)) job.heap)))
    sourced first second view made m is (Ok ready) h same =
        let now = prepared (view m) is (made (second ready) (loaded_world (view m) job.heap)) h in
        subst (λ n. told_verdict job ≡ Ok (told_run (view n) job.heap (made (second ready) (loaded_world (view n) job.heap)))) (sym same) now
    sourced first second view made m is (Err o) h same = no_events (view m) is o h
