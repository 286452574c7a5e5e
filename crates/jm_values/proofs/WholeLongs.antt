-- A store leaves every long with both its local variables.
use Rattle.std.proofs.Common.{◌≡◌, ◌≢◌, ℕ, zero, suc, ◌+◌, ◌<◌, ◌≤◌, List, [], ◌∷◌, Option, Some, None, Bool, true, false, length, refl, sym, ap, subst, ◌∙◌, arith}
use Rattle.std.specs.Prelude.{ℤ, slice_get, slice_set, nat_eq}
use Rattle.std.proofs.lemmas.Bool.{eqb-true, eqb-false}
use Rattle.std.proofs.lemmas.List.{length-set}
use Rattle.std.proofs.lemmas.Option.{slice_get_within}
use Rattle.jm_program.proofs.Sequences.{got_written, got_unwritten as get_set_other}
use Rattle.jm_values.specs.WellFormed.{LongsAreWhole}
use Rattle.jm_values.specs.LoadsAndStores.{stored, without_long_before, without_second, unset_long}
use Rattle.jm_values.specs.declared.value.Value.{Value}
use Rattle.jm_values.specs.declared.value.Value.TheVariants.{Int, Long, Null, Ref}

by_equal : {P : Type 0} (m n : ℕ) → (m ≡ n → P) → (m ≢ n → P) → P
by_equal {P} m n equal apart = pick (nat_eq m n) refl
  where
    pick : (b : Bool) → nat_eq m n ≡ b → P
    pick true e = equal (eqb-true m n e)
    pick false e = apart (eqb-false m n e)

-- what is read where something was set, if anything is
get_set_at : {A : Type 0} (l : List A) (i j : ℕ) (x y : A) → j ≡ i → slice_get (slice_set l i x) j ≡ Some y → y ≡ x
get_set_at l i j x y same e =
    let here : slice_get (slice_set l i x) i ≡ Some y = ap (slice_get (slice_set l i x)) (sym same) ∙ e in
    let within : i < length (slice_set l i x) = slice_get_within (slice_set l i x) i y here in
    let inside : i < length l = omega (arith, within, length-set l i x) in
    let read = got_written l i x inside in
    let both : Some y ≡ Some x = sym here ∙ read in
    cc

-- no local variable loses its long by one that is no longer set
unset_whole : (locals : List (Option Value)) (n : ℕ) → LongsAreWhole locals → LongsAreWhole (slice_set locals n None)
unset_whole locals n whole m k e = by_equal m n at_n elsewhere
  where
    at_n : m ≡ n → slice_get (slice_set locals n None) (suc m) ≡ Some None
    at_n same = let no : Some (Long k) ≡ None = get_set_at locals n m None (Some (Long k)) same e in cc

    elsewhere : m ≢ n → slice_get (slice_set locals n None) (suc m) ≡ Some None
    elsewhere other =
        let second = whole m k (sym (get_set_other locals n m None other) ∙ e) in
        by_equal (suc m) n
        (λ same. let within : suc m < length locals = slice_get_within locals (suc m) None second in
        ap (λ i. slice_get (slice_set locals n None) i) same ∙ got_written locals n None (subst (λ i. i < length locals) same within))
        (λ apart. get_set_other locals n (suc m) None apart ∙ second)

-- a value is set where no long lies before it, and a long only before a variable that is not set
set_whole : (locals : List (Option Value)) (n : ℕ) (v : Value) → LongsAreWhole locals → ((m : ℕ) (k : ℤ) → suc m ≡ n → slice_get locals m ≡ Some (Some (Long k)) → ⊥) → ((k : ℤ) → v ≡ Long k → slice_get locals (suc n) ≡ Some None) → LongsAreWhole (slice_set locals n (Some v))
set_whole locals n v whole before second m k e = by_equal m n at_n elsewhere
  where
    at_n : m ≡ n → slice_get (slice_set locals n (Some v)) (suc m) ≡ Some None
    at_n same =
        let some : Some (Long k) ≡ Some v = get_set_at locals n m (Some v) (Some (Long k)) same e in
        let long : v ≡ Long k = cc in
        let apart : suc m ≢ n = λ i. absurd (omega (arith, i, same)) in
        get_set_other locals n (suc m) (Some v) apart ∙ ap (λ i. slice_get locals (suc i)) same ∙ second k long

    elsewhere : m ≢ n → slice_get (slice_set locals n (Some v)) (suc m) ≡ Some None
    elsewhere other =
        let here = sym (get_set_other locals n m (Some v) other) ∙ e in
        let apart : suc m ≢ n = λ i. before m k i here in
        get_set_other locals n (suc m) (Some v) apart ∙ whole m k here

-- after the long before is unset, all are whole and none lies before
unset_long_whole : (n : ℕ) (o : Option (Option Value)) (locals : List (Option Value)) → LongsAreWhole locals → LongsAreWhole (unset_long n o locals)
unset_long_whole n (Some (Some (Long k))) locals whole = unset_whole locals n whole
unset_long_whole n (Some (Some v)) locals whole = whole
unset_long_whole n (Some None) locals whole = whole
unset_long_whole n None locals whole = whole

before_whole : (n : ℕ) (locals : List (Option Value)) → LongsAreWhole locals → LongsAreWhole (without_long_before n locals)
before_whole zero locals whole = whole
before_whole (suc n) locals whole = unset_long_whole n (slice_get locals n) locals whole

none_at : (n : ℕ) (locals : List (Option Value)) (o : Option (Option Value)) → slice_get locals n ≡ o → (k : ℤ) → slice_get (unset_long n o locals) n ≡ Some (Some (Long k)) → ⊥
none_at n locals (Some (Some (Long j))) e k h = let no : Some (Long k) ≡ None = get_set_at locals n n None (Some (Long k)) refl h in cc
none_at n locals (Some (Some (Int j))) e k h = cc
none_at n locals (Some (Some Null)) e k h = cc
none_at n locals (Some (Some (Ref j))) e k h = cc
none_at n locals (Some None) e k h = cc
none_at n locals None e k h = cc

none_before : (n : ℕ) (locals : List (Option Value)) (m : ℕ) (k : ℤ) → suc m ≡ n → slice_get (without_long_before n locals) m ≡ Some (Some (Long k)) → ⊥
none_before zero locals m k same h = absurd (omega arith)
none_before (suc n) locals m k same h =
    let here : m ≡ n = omega arith in
    none_at n locals (slice_get locals n) refl k (subst (λ i. slice_get (without_long_before (suc n) locals) i ≡ Some (Some (Long k))) here h)

-- how many local variables there are stays
unset_long_length : (n : ℕ) (o : Option (Option Value)) (locals : List (Option Value)) → length (unset_long n o locals) ≡ length locals
unset_long_length n (Some (Some (Long k))) locals = length-set locals n None
unset_long_length n (Some (Some v)) locals = refl
unset_long_length n (Some None) locals = refl
unset_long_length n None locals = refl

before_length : (n : ℕ) (locals : List (Option Value)) → length (without_long_before n locals) ≡ length locals
before_length zero locals = refl
before_length (suc n) locals = unset_long_length n (slice_get locals n) locals

second_length : (v : Value) (n : ℕ) (locals : List (Option Value)) → length (without_second v n locals) ≡ length locals
second_length (Long k) n locals = length-set locals (n + 1) None
second_length _ n locals = refl

pub stored_length : (v : Value) (n : ℕ) (locals : List (Option Value)) → length (stored v n locals) ≡ length locals
stored_length v n locals =
    length-set (without_second v n (without_long_before n locals)) n (Some v)
    ∙ second_length v n (without_long_before n locals)
    ∙ before_length n locals

-- the two local variables of a long are there
pub stored_whole : (v : Value) (n : ℕ) (locals : List (Option Value)) → ((k : ℤ) → v ≡ Long k → n + 2 ≤ length locals) → LongsAreWhole locals → LongsAreWhole (stored v n locals)
stored_whole (Long k) n locals there whole =
    let freed = without_long_before n locals in
    let all = before_whole n locals whole in
    set_whole (slice_set freed (n + 1) None) n (Long k) (unset_whole freed (n + 1) all)
    (λ m j same h. let apart : m ≢ n + 1 = λ i. absurd (omega (arith, i, same)) in
    none_before n locals m j same (sym (get_set_other freed (n + 1) m None apart) ∙ h))
    (λ j e. let next : suc n ≡ n + 1 = omega arith in
    let inside : n + 1 < length freed = omega (arith, there k refl, before_length n locals) in
    ap (slice_get (slice_set freed (n + 1) None)) next ∙ got_written freed (n + 1) None inside)
stored_whole (Int k) n locals there whole = set_whole (without_long_before n locals) n (Int k) (before_whole n locals whole) (none_before n locals) (λ j e. cc)
stored_whole Null n locals there whole = set_whole (without_long_before n locals) n Null (before_whole n locals whole) (none_before n locals) (λ j e. cc)
stored_whole (Ref p) n locals there whole = set_whole (without_long_before n locals) n (Ref p) (before_whole n locals whole) (none_before n locals) (λ j e. cc)

-- iinc: an int takes the place of an int
pub increment_whole : (locals : List (Option Value)) (n : ℕ) (old new : ℤ) → slice_get locals n ≡ Some (Some (Int old)) → LongsAreWhole locals → LongsAreWhole (slice_set locals n (Some (Int new)))
increment_whole locals n old new e whole =
    set_whole locals n (Int new) whole
    (λ m k same h. let empty : slice_get locals n ≡ Some None = ap (slice_get locals) (sym same) ∙ whole m k h in
    let no : Some (Some (Int old)) ≡ Some None = sym e ∙ empty in
    cc)
    (λ k i. cc)
