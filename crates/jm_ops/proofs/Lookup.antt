-- The pairs of a lookupswitch, whose keys rise.
use Rattle.std.proofs.Common.{◌≡◌, ◌≢◌, ℕ, zero, suc, ◌+◌, ◌<◌, ◌≤◌, List, [], ◌∷◌, Option, Some, None, Bool, true, false, not, T, refl, sym, ap, subst, ◌∙◌, arith, inl, inr}
use Rattle.std.specs.Prelude.{ℤ, int_lt, nat_lt, slice_get, ◌<ℤ◌, ◌≤ℤ◌, ◌&&◌}
use Rattle.std.specs.Int.Signed.{lt_z, lt_z_yes, lt_z_no}
use Rattle.std.specs.Ordering.{int_eq}
use Rattle.std.proofs.lemmas.Bool.Decides.{Decides-int_eq}
use Rattle.std.proofs.lemmas.Bool.{cases_lt}
use Rattle.std.proofs.lemmas.Int.{ints, by_lt_z}
use Rattle.jm_values.specs.Switches.{target_in}
use Rattle.std.specs.List.{list_all}
use Rattle.jm_program.specs.Instructions.{keys_rise, is_above, lookup_fits, plain_fits}
use Rattle.jm_program.specs.declared.instruction.plain.LookupSwitch.{LookupSwitch}
use Rattle.jm_program.specs.declared.instruction.plain.Plain.{Plain}
use Rattle.jm_program.specs.declared.instruction.plain.Plain.TheVariants as plain
use Rattle.jm_program.specs.declared.instruction.plain.SwitchPair.{SwitchPair}
use Rattle.jm_program.proofs.Truths.{right_true, left_true}
use Rattle.jm_ops.specs.SingleFrame.{IsOrdered}

pub below_of : (a b : ℤ) → int_lt a b ≡ true → a <ℤ b
below_of a b e = lt_z_yes {a = a} {b = b} (subst T (sym e) tt)

pub not_below_of : (a b : ℤ) → int_lt a b ≡ false → b ≤ℤ a
not_below_of a b e = lt_z_no {a = a} {b = b} (subst (λ r. T (not r)) (sym e) tt)

-- keys that rise from a key are above it
head_below : (key : ℤ) (ps : List SwitchPair) (i : ℕ) (p : SwitchPair) → keys_rise (Some key) ps ≡ true → slice_get ps i ≡ Some p → key <ℤ p.key
head_below key [] i p rise e = absurd (cc)
head_below key (q ∷ ps) zero p rise e =
    let same : q ≡ p = cc in
    subst (λ (r : SwitchPair). key <ℤ r.key) same (below_of key q.key (left_true (int_lt key q.key) (keys_rise (Some q.key) ps) rise))
head_below key (q ∷ ps) (suc i) p rise e =
    let here = below_of key q.key (left_true (int_lt key q.key) (keys_rise (Some q.key) ps) rise) in
    let there = head_below q.key ps i p (right_true (int_lt key q.key) (keys_rise (Some q.key) ps) rise) e in
    omega (arith, ints, here, there)

-- an earlier key is below a later one
pub rising : (above : Option ℤ) (ps : List SwitchPair) (i j : ℕ) (p q : SwitchPair) → keys_rise above ps ≡ true → i < j → slice_get ps i ≡ Some p → slice_get ps j ≡ Some q → p.key <ℤ q.key
rising above [] i j p q rise less e f = absurd (cc)
rising above (r ∷ ps) zero zero p q rise less e f = absurd (omega arith)
rising above (r ∷ ps) (suc i) zero p q rise less e f = absurd (omega arith)
rising above (r ∷ ps) zero (suc j) p q rise less e f =
    let same : r ≡ p = cc in
    subst (λ (s : SwitchPair). s.key <ℤ q.key) same (head_below r.key ps j q (right_true (is_above above r.key) (keys_rise (Some r.key) ps) rise) f)
rising above (r ∷ ps) (suc i) (suc j) p q rise less e f =
    rising (Some r.key) ps i j p q (right_true (is_above above r.key) (keys_rise (Some r.key) ps) rise) (omega arith) e f

not_equal : (a b : ℤ) → a ≢ b → int_eq a b ≡ false
not_equal a b h = pick (int_eq a b) refl
  where
    pick : (r : Bool) → int_eq a b ≡ r → int_eq a b ≡ false
    pick true e = absurd (h ((Decides-int_eq a b).0 e))
    pick false e = e

equal : (a b : ℤ) → a ≡ b → int_eq a b ≡ true
equal a b h = (Decides-int_eq a b).1 h

-- no pair has the key
pub none_in : (ps : List SwitchPair) (default : ℕ) (n : ℤ) → ((k : ℕ) (p : SwitchPair) → slice_get ps k ≡ Some p → p.key ≢ n) → target_in ps default n ≡ default
none_in [] default n none = refl
none_in (q ∷ ps) default n none =
    rw (not_equal q.key n (none zero q refl)) (none_in ps default n (λ k p e. none (suc k) p e))

-- a pair has the key, and none before it
pub found_in : (ps : List SwitchPair) (default : ℕ) (n : ℤ) (i : ℕ) (p : SwitchPair) → slice_get ps i ≡ Some p → p.key ≡ n → ((k : ℕ) (q : SwitchPair) → k < i → slice_get ps k ≡ Some q → q.key ≢ n) → target_in ps default n ≡ p.target
found_in [] default n i p e same before = absurd (cc)
found_in (q ∷ ps) default n zero p e same before =
    let here : q ≡ p = cc in
    let key : q.key ≡ n = ap (λ (r : SwitchPair). r.key) here ∙ same in
    rw (equal q.key n key) (ap (λ (r : SwitchPair). r.target) here)
found_in (q ∷ ps) default n (suc i) p e same before =
    rw (not_equal q.key n (before zero q (omega arith) refl)) (found_in ps default n i p e same (λ k r less f. before (suc k) r (omega arith) f))

-- the key at a place is another number than the one that it is below or above
pub apart_below : (a b : ℤ) → a <ℤ b → a ≢ b
apart_below a b less e = let same = subst (λ (x : ℤ). x <ℤ b) e less in omega (arith, ints, same)

pub apart_above : (a b : ℤ) → b <ℤ a → a ≢ b
apart_above a b less e = let same = subst (λ (x : ℤ). b <ℤ x) e less in omega (arith, ints, same)

-- the search is over where each pair is before the one end or from the other one on
pub none_left : (ps : List SwitchPair) (default : ℕ) (n : ℤ) (low high : ℕ) → high ≤ low → ((k : ℕ) (p : SwitchPair) → k < low → slice_get ps k ≡ Some p → p.key <ℤ n) → ((k : ℕ) (p : SwitchPair) → high ≤ k → slice_get ps k ≡ Some p → n <ℤ p.key) → target_in ps default n ≡ default
none_left ps default n low high met below above = none_in ps default n apart
  where
    apart : (k : ℕ) (p : SwitchPair) → slice_get ps k ≡ Some p → p.key ≢ n
    apart k p e =
        elim (cases_lt k low) as (λ _. p.key ≢ n) [ inl less ↦ apart_below p.key n (below k p less e) | inr more ↦ apart_above p.key n (above k p (omega arith) e) ]

-- the search is over where a pair has the key
pub found_at : (ps : List SwitchPair) (default : ℕ) (n : ℤ) (i : ℕ) (p : SwitchPair) → keys_rise None ps ≡ true → slice_get ps i ≡ Some p → p.key ≡ n → target_in ps default n ≡ p.target
found_at ps default n i p rise e same =
    found_in ps default n i p e same (λ k q less f. apart_below q.key n (subst (λ (x : ℤ). q.key <ℤ x) same (rising None ps k i q p rise less f e)))

-- what lies before a pair with a smaller key is smaller, and so is that pair
pub below_pair : (ps : List SwitchPair) (n : ℤ) (i : ℕ) (p : SwitchPair) → keys_rise None ps ≡ true → slice_get ps i ≡ Some p → p.key <ℤ n → (k : ℕ) (q : SwitchPair) → k < i + 1 → slice_get ps k ≡ Some q → q.key <ℤ n
below_pair ps n i p rise e less k q near f =
    elim (cases_lt k i) as (λ _. q.key <ℤ n) [ inl before ↦ (let step = rising None ps k i q p rise before f e in omega (arith, ints, step, less)) | inr at ↦ here at ]
  where
    here : i ≤ k → q.key <ℤ n
    here at =
        let same : k ≡ i = omega arith in
        let pairs : q ≡ p = let both : Some q ≡ Some p = sym f ∙ ap (slice_get ps) same ∙ e in cc in
        subst (λ (r : SwitchPair). r.key <ℤ n) (sym pairs) less

-- what lies after a pair with a greater key is greater, and so is that pair
pub above_pair : (ps : List SwitchPair) (n : ℤ) (i : ℕ) (p : SwitchPair) → keys_rise None ps ≡ true → slice_get ps i ≡ Some p → n <ℤ p.key → (k : ℕ) (q : SwitchPair) → i ≤ k → slice_get ps k ≡ Some q → n <ℤ q.key
above_pair ps n i p rise e more k q far f =
    elim (cases_lt i k) as (λ _. n <ℤ q.key) [ inl after ↦ (let step = rising None ps i k p q rise after e f in omega (arith, ints, step, more)) | inr at ↦ here at ]
  where
    here : k ≤ i → n <ℤ q.key
    here at =
        let same : k ≡ i = omega arith in
        let pairs : q ≡ p = let both : Some q ≡ Some p = sym f ∙ ap (slice_get ps) same ∙ e in cc in
        subst (λ (r : SwitchPair). n <ℤ r.key) (sym pairs) more

-- neither below nor equal
pub above_of : (a b : ℤ) → a ≤ℤ b → b ≢ a → a <ℤ b
above_of a b le apart = by_lt_z a b (λ less. less) (λ ge. absurd (apart (omega (arith, ints, le, ge))))

-- the keys of a lookupswitch that can stand in a code rise
pub fits_rise : (count : ℕ) (lookup : LookupSwitch) → lookup_fits count lookup ≡ true → keys_rise None lookup.pairs ≡ true
fits_rise count lookup e =
    let rise = keys_rise None lookup.pairs in
    let targets = list_all (λ (pair : SwitchPair). nat_lt pair.target count) lookup.pairs in
    left_true rise targets (left_true (rise && targets) (nat_lt lookup.default count) e)

pub fitting_is_ordered : (count : ℕ) (op : Plain) → plain_fits count op ≡ true → IsOrdered op
fitting_is_ordered count (plain.LookupSwitch lookup) e = fits_rise count lookup e
fitting_is_ordered count _ e = tt
