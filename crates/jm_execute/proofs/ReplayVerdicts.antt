-- The verdict of a replay, one step after the other.
use Rattle.std.proofs.Common.{◌≡◌, ℕ, List, refl, ap, sym, subst, ◌∙◌, Result, Ok, Err}
use Rattle.std.specs.Prelude.{IfOk}
use Rattle.jm_program.specs.declared.class.ClassParts.{ClassParts}
use Rattle.jm_world.specs.Schedules.{Entry}
use Rattle.jm_choice.specs.Choices.{recorded}
use Rattle.jm_execute.specs.Refusals.{Gives, Hinders}
use Rattle.jm_execute.specs.Verdicts.{Verdict, bytes_of, entries_in, program_of, replay_verdict, runs, ◌>>=◌}
use Rattle.jm_job.specs.declared.job.InputFile.{InputFile}
use Rattle.jm_job.specs.declared.job.ReplayJob.{ReplayJob}
use Rattle.jm_execute.specs.declared.refusal.Obstacle.{Obstacle}
use Rattle.jm_execute.proofs.Chains.{hindered}

-- the steps behind the program, and behind the bytes of the record
abbrev behind_program : ReplayJob → List ℕ → List ClassParts → Verdict
behind_program job text program = entries_in text >>= (λ entries. Ok (runs program job.heap (recorded entries) job.show_heap))

abbrev behind_reading : ReplayJob → List ℕ → Verdict
behind_reading job text = program_of job.heap job.program.items >>= behind_program job text

module _ (job : ReplayJob) where
  by_steps : replay_verdict job ≡ (bytes_of job.record_file >>= behind_reading job)
  unfolding replay_verdict
  by_steps = refl

  pub not_read : (o : Obstacle) → Hinders (bytes_of job.record_file) o → Hinders (replay_verdict job) o
  not_read o h = subst (λ v. Hinders v o) (sym by_steps) (hindered (bytes_of job.record_file) (behind_reading job) o h)

  module _ (text : List ℕ) (read : bytes_of job.record_file ≡ Ok text) (limit : ℕ) (files : List InputFile) (limit_is : limit ≡ job.heap) (files_are : files ≡ job.program.items) where
    goes_on : replay_verdict job ≡ behind_reading job text
    goes_on = by_steps ∙ ap (λ step. step >>= behind_reading job) read

    same_program : program_of limit files ≡ program_of job.heap job.program.items
    same_program = ap (λ n. program_of n files) limit_is ∙ ap (program_of job.heap) files_are

    pub no_program : (o : Obstacle) → Hinders (program_of limit files) o → Hinders (replay_verdict job) o
    no_program o h =
        let here = subst (λ v. Hinders v o) same_program h in
        subst (λ v. Hinders v o) (sym goes_on) (hindered (program_of job.heap job.program.items) (behind_program job text) o here)

    module _ (program : List ClassParts) (program_is : program_of limit files ≡ Ok program) where
      goes_further : replay_verdict job ≡ behind_program job text program
      goes_further = goes_on ∙ ap (λ step. step >>= behind_program job text) (sym same_program ∙ program_is)

      no_entries : (o : Obstacle) → Hinders (entries_in text) o → Hinders (replay_verdict job) o
      no_entries o h = subst (λ v. Hinders v o) (sym goes_further) (hindered (entries_in text) (λ entries. Ok (runs program job.heap (recorded entries) job.show_heap)) o h)

      prepared : (entries : List Entry) → entries_in text ≡ Ok entries → replay_verdict job ≡ Ok (runs program job.heap (recorded entries) job.show_heap)
      prepared entries is = goes_further ∙ ap (λ step. step >>= (λ es. Ok (runs program job.heap (recorded es) job.show_heap))) is

    -- a machine with the record
    pub replayed : {T M : Type 0} (first : T → M) (second : T → List Entry) (view : M → List ClassParts) (m : M) → program_of limit files ≡ Ok (view m) → (r : Result T Obstacle)
        → Gives r (entries_in text) second → IfOk r (λ ready. first ready ≡ m)
        → Gives r (replay_verdict job) (λ ready. runs (view (first ready)) job.heap (recorded (second ready)) job.show_heap)
    replayed first second view m is (Ok ready) h same =
        let now = prepared (view m) is (second ready) h in
        subst (λ n. replay_verdict job ≡ Ok (runs (view n) job.heap (recorded (second ready)) job.show_heap)) (sym same) now
    replayed first second view m is (Err o) h same = no_entries (view m) is o h
