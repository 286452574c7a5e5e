-- One more unit of a text that is written, and its end.
use Rattle.std.proofs.Common.{◌≡◌, ℕ, zero, suc, ◌+◌, ◌<◌, ◌≤◌, Bool, true, false, cond, List, [], ◌∷◌, ◌++◌, length, get_or, drop, Option, Some, None, refl, sym, ap, subst, ◌∙◌, append_assoc, arith, add-one, drop-cons, IsTrue}
use Rattle.std.proofs.lemmas.List.{nil_from_length, length-drop}
use Rattle.std.proofs.lemmas.Option.{same_Some}
use Rattle.jm_program.specs.Surrogates.{is_high}
use Rattle.jm_program.specs.JasminUnits.{waits, step_text, lone_text, text_from}
use Rattle.jm_program.specs.declared.jasmin.units.Context.{Context}

waits_high_on : (b : Bool) (u high : ℕ) → is_high u ≡ b → cond b (Some u) None ≡ Some high → is_high high ≡ true
waits_high_on true u high is h = subst (λ (v : ℕ). is_high v ≡ true) (same_Some u high h) is
waits_high_on false u high is h = cc

pub waits_high : (u high : ℕ) → waits u ≡ Some high → IsTrue (is_high high)
waits_high u high h = waits_high_on (is_high u) u high refl h

pub text_step : (place : Context) (waiting : Option ℕ) (units : List ℕ) (i : ℕ) (done whole : List ℕ) → i < length units
    → done ++ text_from place waiting (drop i units) ≡ whole → (done ++ step_text place waiting (get_or units i 0)) ++ text_from place (waits (get_or units i 0)) (drop (i + 1) units) ≡ whole
unfolding text_from
text_step place waiting units i done whole lt h =
    let here : drop i units ≡ get_or units i 0 ∷ drop (i + 1) units = drop-cons units i 0 lt ∙ rw add-one refl in
    append_assoc done (step_text place waiting (get_or units i 0)) (text_from place (waits (get_or units i 0)) (drop (i + 1) units))
    ∙ ap (λ (us : List ℕ). done ++ text_from place waiting us) (sym here) ∙ h

pub text_end : (place : Context) (waiting : Option ℕ) (units : List ℕ) (i : ℕ) (done whole : List ℕ) → length units ≤ i
    → done ++ text_from place waiting (drop i units) ≡ whole → done ++ lone_text waiting ≡ whole
unfolding text_from
text_end place waiting units i done whole le h =
    let none : drop i units ≡ [] = nil_from_length (drop i units) (omega (arith, length-drop i units)) in
    ap (λ (us : List ℕ). done ++ text_from place waiting us) (sym none) ∙ h
