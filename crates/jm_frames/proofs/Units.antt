-- The units that operands take.
use Rattle.std.proofs.Common.{◌≡◌, ℕ, ℤ, zero, suc, ◌+◌, ◌-◌, ◌≤◌, List, [], ◌∷◌, ◌++◌, Option, Some, None, length, length-append, drop, take, refl, sym, ap, ◌∙◌, arith}
use Rattle.std.specs.Prelude.{reverse, slice_get, option_to_list, MatchOption}
use Rattle.std.proofs.lemmas.List.{drop_at, length-drop, length-reverse, reverse-append, take-append-drop}
use Rattle.jm_values.specs.Activation.{category, units}
use Rattle.jm_values.specs.declared.value.Value.{Value}
use Rattle.jm_values.specs.declared.value.Value.TheVariants.{Int, Long, Null, Ref}

length_le_units : (s : List Value) → length s ≤ units s
length_le_units [] = omega arith
length_le_units (Int n ∷ s) = omega (arith, length_le_units s)
length_le_units (Long n ∷ s) = omega (arith, length_le_units s)
length_le_units (Null ∷ s) = omega (arith, length_le_units s)
length_le_units (Ref p ∷ s) = omega (arith, length_le_units s)

-- each operand takes a unit at least
pub length_le_units_reverse : (s : List Value) → length s ≤ units (reverse s)
length_le_units_reverse s = omega (arith, length_le_units (reverse s), length-reverse s)

-- one operand more is dropped
pub dropped : (n : ℕ) (s : List Value) → drop 1 (drop n s) ≡ drop (suc n) s
dropped zero s = refl
dropped (suc n) [] = refl
dropped (suc n) (v ∷ s) = dropped n s

pub one_dropped : (n : ℕ) (s : List Value) → drop 1 (drop n s) ≡ drop (n + 1) s
one_dropped n s = let next : suc n ≡ n + 1 = omega arith in dropped n s ∙ ap (λ k. drop k s) next

-- operands of which none is a long take as many units as they are, and so do those that are left of them
pub singles_left : (n : ℕ) (s : List Value) → length s ≡ units s → length (drop n s) ≡ units (drop n s)
singles_left zero s e = e
singles_left (suc n) [] e = refl
singles_left (suc n) (Int k ∷ s) e = singles_left n s (omega (arith, e))
singles_left (suc n) (Long k ∷ s) e = absurd (omega (arith, e, length_le_units s))
singles_left (suc n) (Null ∷ s) e = singles_left n s (omega (arith, e))
singles_left (suc n) (Ref p ∷ s) e = singles_left n s (omega (arith, e))

-- the last operands are those on top
pub last_dropped : (n : ℕ) (s : List Value) → n ≤ length s → reverse (take (length s - n) s) ≡ drop n (reverse s)
last_dropped n s le =
    let k = length s - n in
    let split : reverse s ≡ reverse (drop k s) ++ reverse (take k s) =
    ap reverse (sym (take-append-drop k s)) ∙ reverse-append (take k s) (drop k s) in
    let count : length (reverse (drop k s)) ≡ n = length-reverse (drop k s) ∙ length-drop k s ∙ omega (arith, le) in
    sym (ap (drop n) split ∙ drop_at (reverse (drop k s)) (reverse (take k s)) n count)

-- without so many of them, of which none is a long, the others take as many units as they are
pub singles_kept : (n : ℕ) (s : List Value) {max : ℕ} → n ≤ length s → length s + 0 ≡ units (reverse s) → length s + 0 ≤ max
    → (length (take (length s - n) s) + 0 ≡ units (reverse (take (length s - n) s))) × (length (take (length s - n) s) + 0 ≤ max)
singles_kept n s le counted fits =
    let same : length (reverse s) ≡ units (reverse s) = omega (arith, length-reverse s, counted) in
    let left = singles_left n (reverse s) same in
    let dropped = last_dropped n s le in
    let long : length (take (length s - n) s) ≡ length (drop n (reverse s)) = sym (length-reverse (take (length s - n) s)) ∙ ap length dropped in
    let less = length-drop n (reverse s) in
    let is : units (reverse (take (length s - n) s)) ≡ units (drop n (reverse s)) = ap units dropped in
    (omega (arith, long, left, is), omega (arith, long, less, length-reverse s, fits))

-- without the last operand so many longs are left, of which it was none or one
pub longs_left : (new : List Value) (v : Value) {old : List Value} {n m max : ℕ} → old ≡ new ++ v ∷ [] → length old + n ≡ units (reverse old)
    → length old + n ≤ max → category v ≡ m + 1 → (m ≤ n) × (length new + (n - m) ≡ units (reverse new)) × (length new + (n - m) ≤ max)
longs_left new v {old} {n} {m} items counted fits is =
    let split : units (reverse old) ≡ category v + units (reverse new) = ap (λ s. units (reverse s)) items ∙ ap units (reverse-append new (v ∷ [])) in
    let long : length old ≡ length new + 1 = ap length items ∙ length-append new (v ∷ []) in
    let few = length_le_units_reverse new in
    (omega arith, omega arith, omega arith)

-- the last operand is the one that is on top
pub last_is : (new : List Value) (o : Option Value) (v : Value) {old : List Value} {k : ℕ} (A B : Type 0) → old ≡ new ++ option_to_list o
    → MatchOption o ((k ≡ 0) × A) (λ _. B) → k ≡ length old → slice_get (reverse old) 0 ≡ Some v → old ≡ new ++ v ∷ []
last_is new None v {old} A B items cases len top = by old (sym len ∙ cases.0) top
  where
    by : (s : List Value) → length s ≡ 0 → slice_get (reverse s) 0 ≡ Some v → old ≡ new ++ v ∷ []
    by [] e t = cc
    by (x ∷ s) e t = absurd (omega (arith, e))
last_is new (Some u) v {old} A B items cases len top =
    let turned : reverse old ≡ u ∷ reverse new = ap reverse items ∙ reverse-append new (u ∷ []) in
    let found : Some u ≡ Some v = sym (ap (λ s. slice_get s 0) turned) ∙ top in
    let same : u ≡ v = cc in
    items ∙ ap (λ x. new ++ x ∷ []) same

-- the operand below the top is on top without it
pub next_is : (new : List Value) (v : Value) {old : List Value} {o : Option Value} → old ≡ new ++ v ∷ [] → slice_get (reverse old) 1 ≡ o
    → slice_get (reverse new) 0 ≡ o
next_is new v items is = sym (ap (λ s. slice_get (reverse s) 1) items ∙ ap (λ s. slice_get s 1) (reverse-append new (v ∷ []))) ∙ is

-- without two longs, so many longs less are left
pub two_longs_left : (new between : List Value) (a b : ℤ) {old : List Value} {n max : ℕ} → old ≡ between ++ Long a ∷ [] → between ≡ new ++ Long b ∷ []
    → length old + n ≡ units (reverse old) → length old + n ≤ max
    → (2 ≤ n) × (length new + (n - 2) ≡ units (reverse new)) × (length new + (n - 2) ≤ max)
two_longs_left new between a b {n = n} first second counted fits =
    let one = longs_left between (Long a) {m = 1} first counted fits refl in
    let two = longs_left new (Long b) {m = 1} second one.1 one.2 refl in
    let left : n - 1 - 1 ≡ n - 2 = omega arith in
    (omega (arith, one.0, two.0), ap (λ k. length new + k) (sym left) ∙ two.1, omega (arith, left, two.2))
