-- The parts of a text: the first, and what follows its separator.
use Rattle.std.proofs.Common.{◌≡◌, ℕ, ◌+◌, ◌-◌, ◌<◌, ◌≤◌, Bool, true, false, not, cond, List, [], ◌∷◌, length, take, drop, nat_eq, refl, arith}
use Rattle.std.specs.List.{position_or_len, onto_first}
use Rattle.std.proofs.lemmas.List.Splits.{slice_split_first}
use Rattle.std.proofs.lemmas.Grind.{common_steps}
use Rattle.jm_schedule.specs.Words.{parts_of}

pub cut_first : (separator : ℕ) (text : List ℕ) (at : ℕ) → at ≡ position_or_len (λ b. nat_eq b separator) text → at < length text
    → parts_of separator text ≡ take at text ∷ parts_of separator (take (length text - (at + 1)) (drop (at + 1) text))
cut_first separator text at is within =
    let rest : take (length text - (at + 1)) (drop (at + 1) text) ≡ drop (at + 1) text = grind (arith, common_steps) in
    rw (rest, is) (slice_split_first (λ b. nat_eq b separator) text 0 (rw (← is) within))

whole_on : (separator b : ℕ) (text : List ℕ) (t : Bool) → length text + 1 ≤ cond (not t) (1 + position_or_len (λ b. nat_eq b separator) text) 0
    → (length text ≤ position_or_len (λ b. nat_eq b separator) text → parts_of separator text ≡ text ∷ [])
    → cond t ([] ∷ parts_of separator text) (onto_first b (parts_of separator text)) ≡ (b ∷ text) ∷ []
whole_on separator b text true past below = absurd (omega arith)
whole_on separator b text false past below = rw (below (omega arith)) refl

pub cut_whole : (separator : ℕ) (text : List ℕ) → length text ≤ position_or_len (λ b. nat_eq b separator) text → parts_of separator text ≡ text ∷ []
cut_whole separator [] past = refl
cut_whole separator (b ∷ text) past = whole_on separator b text (nat_eq b separator) (omega arith) (cut_whole separator text)

onto_some : (b : ℕ) (parts : List (List ℕ)) → onto_first b parts ≡ [] → ⊥
onto_some b [] none = cc
onto_some b (part ∷ parts) none = cc

parts_some_on : (b : ℕ) (parts : List (List ℕ)) (t : Bool) → cond t ([] ∷ parts) (onto_first b parts) ≡ [] → ⊥
parts_some_on b parts true none = cc
parts_some_on b parts false none = onto_some b parts none

-- each text has a part
pub parts_some : (separator : ℕ) (text : List ℕ) → parts_of separator text ≡ [] → ⊥
parts_some separator [] none = cc
parts_some separator (b ∷ text) none = parts_some_on b (parts_of separator text) (nat_eq b separator) none
