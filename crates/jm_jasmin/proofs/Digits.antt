-- The number so far, and that of the digits that are left, at the i-th.
use Rattle.std.proofs.Common.{◌≡◌, ℕ, suc, ◌+◌, ◌-◌, ◌*◌, ◌<◌, ◌≤◌, Bool, true, false, List, ◌∷◌, length, get_or, drop, Some, None, sym, ap, ◌∙◌, refl, add-one, arith, length-drop, drop-cons}
use Rattle.std.specs.Prelude.{nat_le, nat_lt, ◌&&◌, if◌then◌else◌}
use Rattle.std.proofs.lemmas.List.{nil_from_length}
use Rattle.std.proofs.lemmas.Bool.{lt-ltb, le-ltb, le-leb, lt-leb, and_from}
use Rattle.jm_jasmin.specs.Header.{digits_from}

abbrev pub is_next_digit : ℕ → ℕ → Bool
is_next_digit value u = nat_le 48 u && nat_le u 57 && nat_lt (value * 10 + (u - 48)) 65536

at_digit : (value : ℕ) (us : List ℕ) (i u : ℕ) → i < length us → u ≡ get_or us i 0 → digits_from value (drop i us) ≡ (if is_next_digit value u then digits_from (value * 10 + (u - 48)) (drop (i + 1) us) else None)
unfolding digits_from
at_digit value us i u lt is =
    let here : drop i us ≡ u ∷ drop (i + 1) us = drop-cons us i 0 lt ∙ rw add-one (ap (λ (z : ℕ). z ∷ drop (suc i) us) (sym is)) in
    ap (digits_from value) here

pub digits_next : (value : ℕ) (us : List ℕ) (i u : ℕ) → i < length us → u ≡ get_or us i 0 → 48 ≤ u → u ≤ 57 → value * 10 + (u - 48) ≤ 65535 → digits_from value (drop i us) ≡ digits_from (value * 10 + (u - 48)) (drop (i + 1) us)
digits_next value us i u lt is low high fits =
    let test : is_next_digit value u ≡ true = and_from (nat_le 48 u && nat_le u 57) (nat_lt (value * 10 + (u - 48)) 65536) (and_from (nat_le 48 u) (nat_le u 57) (le-leb 48 u low) (le-leb u 57 high)) (lt-ltb (value * 10 + (u - 48)) 65536 (omega (arith, fits))) in
    at_digit value us i u lt is ∙ ap (λ (b : Bool). if b then digits_from (value * 10 + (u - 48)) (drop (i + 1) us) else None) test

wrong_digit : (value : ℕ) (us : List ℕ) (i u : ℕ) → i < length us → u ≡ get_or us i 0 → is_next_digit value u ≡ false → digits_from value (drop i us) ≡ None
wrong_digit value us i u lt is test = at_digit value us i u lt is ∙ ap (λ (b : Bool). if b then digits_from (value * 10 + (u - 48)) (drop (i + 1) us) else None) test

first_false : (a b c : Bool) → a ≡ false → (a && b && c) ≡ false
first_false true b c h = absurd cc
first_false false b c h = refl

second_false : (a b c : Bool) → b ≡ false → (a && b && c) ≡ false
second_false true true c h = absurd cc
second_false true false c h = refl
second_false false b c h = refl

third_false : (a b c : Bool) → c ≡ false → (a && b && c) ≡ false
third_false true true c h = h
third_false true false c h = refl
third_false false b c h = refl

pub digits_low : (value : ℕ) (us : List ℕ) (i u : ℕ) → i < length us → u ≡ get_or us i 0 → u < 48 → digits_from value (drop i us) ≡ None
digits_low value us i u lt is low = wrong_digit value us i u lt is (first_false (nat_le 48 u) (nat_le u 57) (nat_lt (value * 10 + (u - 48)) 65536) (lt-leb 48 u low))

pub digits_high : (value : ℕ) (us : List ℕ) (i u : ℕ) → i < length us → u ≡ get_or us i 0 → 57 < u → digits_from value (drop i us) ≡ None
digits_high value us i u lt is high = wrong_digit value us i u lt is (second_false (nat_le 48 u) (nat_le u 57) (nat_lt (value * 10 + (u - 48)) 65536) (lt-leb u 57 high))

pub digits_large : (value : ℕ) (us : List ℕ) (i u : ℕ) → i < length us → u ≡ get_or us i 0 → 65535 < value * 10 + (u - 48) → digits_from value (drop i us) ≡ None
digits_large value us i u lt is large = wrong_digit value us i u lt is (third_false (nat_le 48 u) (nat_le u 57) (nat_lt (value * 10 + (u - 48)) 65536) (le-ltb (value * 10 + (u - 48)) 65536 (omega (arith, large))))

pub digits_done : (value : ℕ) (us : List ℕ) (i : ℕ) → length us ≤ i → digits_from value (drop i us) ≡ Some value
unfolding digits_from
digits_done value us i le = ap (digits_from value) (nil_from_length (drop i us) (omega (arith, length-drop i us)))

pub ruleset digit_steps = (digits_next, digits_low, digits_high, digits_large, digits_done)
