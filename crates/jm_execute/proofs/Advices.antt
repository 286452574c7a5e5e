-- What is said behind the lines of a job, by its verdict.
use Rattle.std.proofs.Common.{◌≡◌, ℕ, List, [], ◌++◌, Bool, true, false, Option, Result, refl, sym, ap, ap₂, subst, append_assoc, ◌∙◌}
use Rattle.std.specs.Prelude.{Vec, IfOk}
use Rattle.std.specs.declared.alloc.Global.{Global}
use Rattle.jm_execute.specs.Advice.{answer_if, ends_badly, see_line, verdict_advice}
use Rattle.jm_execute.specs.Quotes.{up_to}
use Rattle.jm_execute.specs.Verdicts.{Verdict, Work}
use Rattle.jm_explain.specs.declared.status.Status.{Status}
use Rattle.jm_job.specs.declared.job.InputFile.{InputFile}
use Rattle.jm_why.specs.Answers.{why}
use Rattle.jm_world.specs.World.{World}
use Rattle.jm_world.specs.declared.event.Event.{Event}

-- lines, and behind them the number, of what is the same
pub numbered : {E : Type 0} (r : Result (Vec ℕ Global) E) (t u a b : List ℕ) → IfOk r (λ more. more.items ≡ t ++ see_line a) → t ≡ u → a ≡ b
    → IfOk r (λ more. more.items ≡ u ++ see_line b)
numbered r t u a b said same_text same_number =
    subst (λ x. IfOk r (λ more. more.items ≡ x ++ see_line b)) same_text (subst (λ y. IfOk r (λ more. more.items ≡ t ++ see_line y)) same_number said)

-- by what a verdict is
pub advised_by : {E : Type 0} (r : Result (Vec ℕ Global) E) (files : List InputFile) (answer : Work → List ℕ) (v w : Verdict) (status : Status) → v ≡ w
    → IfOk r (λ more. more.items ≡ verdict_advice files answer w status) → IfOk r (λ more. more.items ≡ verdict_advice files answer v status)
advised_by r files answer v w status same said = subst (λ u. IfOk r (λ more. more.items ≡ verdict_advice files answer u status)) (sym same) said

no_answer_by : (b : Bool) → [] ≡ answer_if b []
no_answer_by true = refl
no_answer_by false = refl

pub no_answer_if : (status : Status) → [] ≡ answer_if (ends_badly status) []
no_answer_if status = no_answer_by (ends_badly status)

-- of the same events
pub answered_of : {S E : Type 0} (bytes : S → List ℕ) (r : Result S E) (most : Option ℕ) (w : World) (these those : List Event) → these ≡ those
    → IfOk r (λ text. bytes text ≡ why most w these) → IfOk r (λ text. bytes text ≡ why most w those)
answered_of bytes r most w these those same said = subst (λ es. IfOk r (λ text. bytes text ≡ why most w es)) same said

-- four parts, one behind the other
pub four_parts : (v₀ v₁ v₂ v₃ v₄ a b c d text said : List ℕ) → v₀ ≡ [] → v₁ ≡ v₀ ++ a → v₂ ≡ v₁ ++ b → v₃ ≡ v₂ ++ c → v₄ ≡ v₃ ++ d → a ≡ text → c ≡ up_to 32 said
    → v₄ ≡ text ++ (b ++ (up_to 32 said ++ d))
four_parts v₀ v₁ v₂ v₃ v₄ a b c d text said none first second third last is_text is_number =
    let all : v₄ ≡ ((a ++ b) ++ c) ++ d = last ∙ ap (λ (x : List ℕ). x ++ d) (third ∙ ap (λ (x : List ℕ). x ++ c) (second ∙ ap (λ (x : List ℕ). x ++ b) (first ∙ ap (λ (x : List ℕ). x ++ a) none))) in
    all ∙ append_assoc (a ++ b) c d ∙ append_assoc a b (c ++ d) ∙ ap₂ (λ (x y : List ℕ). x ++ (b ++ (y ++ d))) is_text is_number
