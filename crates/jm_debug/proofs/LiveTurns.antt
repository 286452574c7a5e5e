-- The first live thread from a number on.
use Rattle.std.proofs.Common.{◌≡◌, ℕ, zero, suc, ◌+◌, ◌≤◌, ◌<◌, List, [], ◌∷◌, Option, Some, None, Bool, true, false, refl, ap, ◌∙◌, length, arith, inl, inr, ◌⊎◌}
use Rattle.std.specs.Prelude.{slice_get, nat_le}
use Rattle.std.proofs.lemmas.Bool.{leb-true, leb-false, cases_lt}
use Rattle.std.proofs.lemmas.Option.{slice_get_past}
use Rattle.jm_machine.specs.Threads.{is_live, is_live_thread}
use Rattle.jm_world.specs.RoundRobin.{live_from}
use Rattle.jm_world.specs.World.{World, Thread, is_running}

-- no thread from a number on and below another is live
abbrev pub NoneLive : World → ℕ → ℕ → Type 0
NoneLive w low high = (k : ℕ) → low ≤ k → k < high → is_live w k ≡ false

pub nothing_between : (w : World) (low : ℕ) → NoneLive w low low
nothing_between w low = λ k above below. absurd (omega arith)

pub one_more : (w : World) (low high : ℕ) → NoneLive w low high → is_live w high ≡ false → NoneLive w low (high + 1)
one_more w low high none ended = λ k above below. elim (cases_lt k high) [
  | inl before ↦ none k above before
  | inr behind ↦ let same : k ≡ high = omega arith in ap (is_live w) same ∙ ended
]

-- where the first is passed over, and where it is found
pub passed_over : (from number : ℕ) (t : Thread) (ts : List Thread) → (from ≤ number → is_running t.ending ≡ false) → live_from from number (t ∷ ts) ≡ live_from from (number + 1) ts
passed_over from number t ts ended = by (nat_le from number) refl
  where
    by : (b : Bool) → nat_le from number ≡ b
        → (elim b as (λ _. Option ℕ) [ false ↦ live_from from (number + 1) ts | true ↦ elim (is_running t.ending) as (λ _. Option ℕ) [ true ↦ Some number | false ↦ live_from from (number + 1) ts ] ])
        ≡ live_from from (number + 1) ts
    by false e = refl
    by true e = ap (λ r. elim r as (λ _. Option ℕ) [ true ↦ Some number | false ↦ live_from from (number + 1) ts ]) (ended (leb-true from number e))

pub taken_first : (from number : ℕ) (t : Thread) (ts : List Thread) → from ≤ number → is_running t.ending ≡ true → live_from from number (t ∷ ts) ≡ Some number
taken_first from number t ts within live = by (nat_le from number) refl
  where
    by : (b : Bool) → nat_le from number ≡ b
        → (elim b as (λ _. Option ℕ) [ false ↦ live_from from (number + 1) ts | true ↦ elim (is_running t.ending) as (λ _. Option ℕ) [ true ↦ Some number | false ↦ live_from from (number + 1) ts ] ])
        ≡ Some number
    by false e = let below = leb-false from number e in absurd (omega arith)
    by true e = ap (λ r. elim r as (λ _. Option ℕ) [ true ↦ Some number | false ↦ live_from from (number + 1) ts ]) live

pub found_at : (ts : List Thread) (from number i : ℕ) → from ≤ number + i → is_live_thread (slice_get ts i) ≡ true → ((j : ℕ) → from ≤ number + j → j < i → is_live_thread (slice_get ts j) ≡ false)
    → live_from from number ts ≡ Some (number + i)
found_at [] from number i within live none = cc
found_at (t ∷ ts) from number zero within live none =
    let same : number ≡ number + 0 = omega arith in
    taken_first from number t ts (omega arith) live ∙ ap Some same
found_at (t ∷ ts) from number (suc i) within live none =
    let same : number + 1 + i ≡ number + suc i = omega arith in
    passed_over from number t ts (λ h. none zero (omega arith) (omega arith))
    ∙ found_at ts from (number + 1) i (omega arith) live (λ j above below. none (suc j) (omega arith) (omega arith))
    ∙ ap Some same

pub found_nowhere : (ts : List Thread) (from number : ℕ) → ((j : ℕ) → from ≤ number + j → is_live_thread (slice_get ts j) ≡ false) → live_from from number ts ≡ None
found_nowhere [] from number none = refl
found_nowhere (t ∷ ts) from number none =
    passed_over from number t ts (λ h. none zero (omega arith)) ∙ found_nowhere ts from (number + 1) (λ j above. none (suc j) (omega arith))

pub first_live : (w : World) (low n : ℕ) → low ≤ n → is_live w n ≡ true → NoneLive w low n → live_from low 1 w.threads ≡ Some n
first_live w low zero within live none = cc
first_live w low (suc i) within live none =
    let same : 1 + i ≡ suc i = omega arith in
    found_at w.threads low 1 i (omega arith) live (λ j above below. none (suc j) (omega arith) (omega arith)) ∙ ap Some same

pub none_live : (w : World) (low high : ℕ) → length w.threads < high → NoneLive w low high → live_from low 1 w.threads ≡ None
none_live w low high all none = found_nowhere w.threads low 1 (λ j above. by j above (cases_lt j (length w.threads)))
  where
    by : (j : ℕ) → low ≤ 1 + j → (j < length w.threads) ⊎ (length w.threads ≤ j) → is_live_thread (slice_get w.threads j) ≡ false
    by j above (inl within) = none (suc j) (omega arith) (omega arith)
    by j above (inr past) = ap is_live_thread (slice_get_past w.threads j past)
