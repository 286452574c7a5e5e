-- What a turn has left behind so many events, where the turns behind it are the same thread's.
use Rattle.std.proofs.Common.{◌≡◌, ℕ, zero, suc, ◌+◌, ◌-◌, ◌%◌, ◌≤◌, ◌<◌, true, false, sym, ap, ◌∙◌, inl, inr, ◌⊎◌, arith}
use Rattle.std.specs.Prelude.{max, nat_eq, not}
use Rattle.std.proofs.Math.Dec.{eqb-suc-zero}
use Rattle.std.proofs.Math.Nat.{add-mod_left, mod-eq_of_lt}
use Rattle.std.proofs.lemmas.Bool.{cases_lt, lt-ltb, le-ltb}
use Rattle.jm_events.specs.Due.{once_more, turns_behind}
use Rattle.jm_events.specs.declared.turns.Turns.{Turns}

-- in the same turn, or in that of a new pass
same_turn : (t : Turns) → 1 < t.left → once_more t ≡ record t { steps = t.steps - 1; left = t.left - 1; moved = true }
same_turn t many = ap (λ b. elim b as (λ _. Turns) [ true ↦ record t { steps = t.steps - 1; left = t.left - 1; moved = true } | false ↦ record t { steps = t.steps - 1; left = t.quantum; moved = false } ]) (lt-ltb 1 t.left many)

new_turn : (t : Turns) → t.left ≤ 1 → once_more t ≡ record t { steps = t.steps - 1; left = t.quantum; moved = false }
new_turn t few = ap (λ b. elim b as (λ _. Turns) [ true ↦ record t { steps = t.steps - 1; left = t.left - 1; moved = true } | false ↦ record t { steps = t.steps - 1; left = t.quantum; moved = false } ]) (le-ltb 1 t.left few)

abbrev within : Turns → ℕ → Turns
within t k = record t { steps = t.steps - k; left = t.left - k; moved = true }

abbrev past : Turns → ℕ → ℕ → Turns
past t k over = record t { steps = t.steps - k; left = t.quantum - over; moved = not (nat_eq over 0) }

pub behind_within : (k : ℕ) (t : Turns) → 0 < k → k < t.left → turns_behind t k ≡ within t k
behind_within zero t some few = absurd (omega arith)
behind_within (suc zero) t some few = same_turn t few
behind_within (suc (suc j)) t some few =
    let u = record t { steps = t.steps - 1; left = t.left - 1; moved = true } in
    let steps : t.steps - 1 - suc j ≡ t.steps - suc (suc j) = omega arith in
    let left : t.left - 1 - suc j ≡ t.left - suc (suc j) = omega arith in
    ap (λ (x : Turns). turns_behind x (suc j)) (same_turn t (omega arith))
    ∙ behind_within (suc j) u (omega arith) (omega arith)
    ∙ (λ i. record t { steps = steps i; left = left i; moved = true })

pub behind_past : (k : ℕ) (t : Turns) (over : ℕ) → max t.left 1 ≤ k → over ≡ (k - max t.left 1) % max t.quantum 1 → turns_behind t k ≡ past t k over
behind_past zero t over all is = absurd (omega arith)
behind_past (suc j) t over all is = elim (cases_lt 1 t.left) [ inl many ↦ in_turn many (λ u. behind_past j u over) | inr few ↦ anew few (λ u. behind_past j u over) (cases_lt j (max t.quantum 1)) ]
  where
    in_turn : 1 < t.left → ((u : Turns) → max u.left 1 ≤ j → over ≡ (j - max u.left 1) % max u.quantum 1 → turns_behind u j ≡ past u j over) → turns_behind t (suc j) ≡ past t (suc j) over
    in_turn many rest =
        let u = record t { steps = t.steps - 1; left = t.left - 1; moved = true } in
        let same : suc j - max t.left 1 ≡ j - max (t.left - 1) 1 = omega arith in
        let steps : t.steps - 1 - j ≡ t.steps - suc j = omega arith in
        ap (λ (x : Turns). turns_behind x j) (same_turn t many)
        ∙ rest u (omega arith) (is ∙ ap (λ n. n % max t.quantum 1) same)
        ∙ (λ i. record t { steps = steps i; left = t.quantum - over; moved = not (nat_eq over 0) })

    first : (j : ℕ) → j < max t.quantum 1 → over ≡ j → turns_behind (record t { steps = t.steps - 1; left = t.quantum; moved = false }) j ≡ past t (suc j) over
    first zero low none =
        let all : t.quantum ≡ t.quantum - 0 = omega arith in
        (λ i. record t { steps = t.steps - 1; left = all i; moved = false }) ∙ ap (past t 1) (sym none)
    first (suc k) low same =
        let u = record t { steps = t.steps - 1; left = t.quantum; moved = false } in
        let steps : t.steps - 1 - suc k ≡ t.steps - suc (suc k) = omega arith in
        behind_within (suc k) u (omega arith) (omega arith)
        ∙ (λ i. record t { steps = steps i; left = t.quantum - suc k; moved = not (sym (eqb-suc-zero k) i) })
        ∙ ap (past t (suc (suc k))) (sym same)

    anew : t.left ≤ 1 → ((u : Turns) → max u.left 1 ≤ j → over ≡ (j - max u.left 1) % max u.quantum 1 → turns_behind u j ≡ past u j over)
        → (j < max t.quantum 1) ⊎ (max t.quantum 1 ≤ j) → turns_behind t (suc j) ≡ past t (suc j) over
    anew few rest (inl low) =
        let same : suc j - max t.left 1 ≡ j = omega arith in
        ap (λ (x : Turns). turns_behind x j) (new_turn t few) ∙ first j low (is ∙ ap (λ n. n % max t.quantum 1) same ∙ mod-eq_of_lt low)
    anew few rest (inr high) =
        let u = record t { steps = t.steps - 1; left = t.quantum; moved = false } in
        let whole : j ≡ max t.quantum 1 + (j - max t.quantum 1) = omega arith in
        let same : suc j - max t.left 1 ≡ j = omega arith in
        let steps : t.steps - 1 - j ≡ t.steps - suc j = omega arith in
        ap (λ (x : Turns). turns_behind x j) (new_turn t few)
        ∙ rest u high (is ∙ ap (λ n. n % max t.quantum 1) (same ∙ whole) ∙ add-mod_left (max t.quantum 1) (j - max t.quantum 1))
        ∙ (λ i. record t { steps = steps i; left = t.quantum - over; moved = not (nat_eq over 0) })
