-- The words of a line that are two, and those that are not.
use Rattle.std.proofs.Common.{◌≡◌, ℕ, List, [], ◌∷◌, Option, Some, None, false, codes, refl, sym, ap}
use Rattle.jm_program.specs.Names.{same_text}
use Rattle.jm_world.specs.Schedules.{marked, seat_number, kind_named, with_words, with_step_words}
use Rattle.jm_world.specs.declared.event.Event.{Event}
use Rattle.jm_schedule.specs.Words.{words_of, two_words}
use Rattle.jm_schedule.proofs.Splits.{parts_some}

abbrev listed : Option (List ℕ × List ℕ) → List (List ℕ)
listed None = []
listed (Some pair) = pair.0 ∷ pair.1 ∷ []

pub are_two : (words : List (List ℕ)) (a b : List ℕ) → Some (a, b) ≡ two_words words → words ≡ a ∷ b ∷ []
are_two [] a b is = cc
are_two (x ∷ []) a b is = cc
are_two (x ∷ y ∷ []) a b is = sym (ap listed is)
are_two (x ∷ y ∷ z ∷ words) a b is = cc

-- words that are there and are not two
other_words : (e : Event) (words : List (List ℕ)) → (words ≡ [] → ⊥) → None ≡ two_words words → with_words e words ≡ None
other_words e [] some not = absurd (some refl)
other_words e (x ∷ []) some not = refl
other_words e (x ∷ y ∷ []) some not = cc
other_words e (x ∷ y ∷ z ∷ words) some not = refl

pub not_two : (e : Event) (text : List ℕ) → None ≡ two_words (words_of text) → with_words e (words_of text) ≡ None
not_two e text not = other_words e (words_of text) (parts_some 32 text) not

other_step_words : (e : Event) (words : List (List ℕ)) → (words ≡ [] → ⊥) → None ≡ two_words words → with_step_words e words ≡ None
other_step_words e [] some not = absurd (some refl)
other_step_words e (x ∷ []) some not = refl
other_step_words e (x ∷ y ∷ []) some not = cc
other_step_words e (x ∷ y ∷ z ∷ words) some not = refl

pub not_two_steps : (e : Event) (text : List ℕ) → None ≡ two_words (words_of text) → with_step_words e (words_of text) ≡ None
not_two_steps e text not = other_step_words e (words_of text) (parts_some 32 text) not

pub more_than_two : (a b : List ℕ) (words : List (List ℕ)) → (words ≡ [] → ⊥) → two_words (a ∷ b ∷ words) ≡ None
more_than_two a b [] some = absurd (some refl)
more_than_two a b (c ∷ words) some = refl

-- two words of which the first is not x
pub not_repeated : (e : Event) (a b : List ℕ) → same_text a (codes "x") ≡ false → with_step_words e (a ∷ b ∷ []) ≡ marked e (seat_number a) (kind_named b)
not_repeated e a b not = rw (with_step_words, not) refl
