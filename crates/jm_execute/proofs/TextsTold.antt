-- What is left behind where the text of a run was told.
use Rattle.std.proofs.Common.{◌≡◌, [], append-nil, inl, inr, refl, sym, subst, ◌∙◌, false, Result, Ok, Err}
use Rattle.jm_page.specs.Writing.{Puts}
use Rattle.jm_page.specs.declared.writer.PageFault.{PageFault}
use Rattle.jm_page.specs.declared.writer.PageFault.TheVariants as page
use Rattle.jm_execute.specs.Tellings.{IsTold, SaysEnding, Telling, TellingEnding, TellingLeaves, TellingLeavesIf, TextTold, ToldRun, cut_short, last_world, telling_output, text_of, told}
use Rattle.jm_execute.specs.Verdicts.{Cause}
use Rattle.jm_execute.specs.Written.{AllWritten, Broken, Watch, Words}
use Rattle.jm_explain.specs.declared.status.Status.{Status}
use Rattle.jm_execute.proofs.Writing.{nothing_written}

module _ {O E : Type 0} (o : Words O) (w : Words E) (tells : Telling) where
  whole_told : (e : TellingEnding) (status : Status) (out new_out : Watch O) (err new_err : Watch E) → out.failed ≡ false → AllWritten o out new_out (telling_output tells e)
      → SaysEnding w tells e status err new_err → TellingLeaves o w tells e status out new_out err new_err
  whole_told e status out new_out err new_err fresh written said = subst (λ b. TellingLeavesIf b o w tells e status out new_out err new_err) (sym (written.same ∙ fresh)) (written, said)

  -- where there is nothing to write
  pub untouched_told : (e : TellingEnding) (status : Status) (out : Watch O) (err new_err : Watch E) → out.failed ≡ false → telling_output tells e ≡ [] → SaysEnding w tells e status err new_err
      → TellingLeaves o w tells e status out out err new_err
  untouched_told e status out err new_err fresh none said = whole_told e status out out err new_err fresh (subst (AllWritten o out out) (sym none) (nothing_written o out)) said

  -- by what writing the text came to
  pub text_told : {A : Type 0} (r : ToldRun) (written : Result A PageFault) (status : Status) (out new_out : Watch O) (err new_err : Watch E) → out.failed ≡ false
      → Puts (λ old piece new. AllWritten o old new piece) (λ old piece new. Broken o old new piece) written out (text_of tells r) new_out
      → TextTold w written (last_world tells r) status err new_err → IsTold o w tells (Ok r) status out new_out err new_err
  text_told r (Ok a) status out new_out err new_err fresh wrote said = elim said [
    | inl ended ↦ (told r, refl, whole_told (told r) status out new_out err new_err fresh wrote ended)
    | inr lacks ↦ (cut_short (text_of tells r), inr (r, refl, ([], sym (append-nil (text_of tells r)))), whole_told (cut_short (text_of tells r)) status out new_out err new_err fresh wrote lacks)
  ]
  text_told r (Err page.OutOfMemory) status out new_out err new_err fresh (front, begins, wrote) said =
      (cut_short front, inr (r, refl, begins), whole_told (cut_short front) status out new_out err new_err fresh wrote said)
  text_told r (Err page.WriteFailed) status out new_out err new_err fresh (front, begins, broke) said =
      (told r, refl, subst (λ b. TellingLeavesIf b o w tells (told r) status out new_out err new_err) (sym broke.failed) ((front, begins, broke), said))

  -- of the same run
  pub told_of : (v other : Result ToldRun Cause) (status : Status) (out new_out : Watch O) (err new_err : Watch E) → v ≡ other → IsTold o w tells v status out new_out err new_err
      → IsTold o w tells other status out new_out err new_err
  told_of v other status out new_out err new_err is made = subst (λ u. IsTold o w tells u status out new_out err new_err) is made
