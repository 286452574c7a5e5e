-- What the loop over the digits of a number keeps.
use Rattle.std.proofs.Common.{◌≡◌, ℕ, suc, ◌+◌, ◌*◌, ◌<◌, ◌≤◌, List, [], ◌∷◌, length, get_or, drop, Bool, true, false, ◌&&◌, Option, Some, None, if◌then◌else◌, ◌⊎◌, inl, inr, ⊎_elim, refl, arith, add-one, drop-cons}
use Rattle.std.specs.Prelude.{nat_le}
use Rattle.std.specs.List.{list_all}
use Rattle.std.specs.Char.{digit_value}
use Rattle.std.specs.Str.Parse.{digits_value_after}
use Rattle.std.proofs.Math.Nat.{le-mul_of_pos_right}
use Rattle.std.proofs.lemmas.Bool.Decides.{nat_tests}
use Rattle.std.proofs.lemmas.List.{drop_all}
use Rattle.jm_jasmin_lex.specs.Integers.{is_digit, numeral, with_digit}

-- the number of these digits behind the number n
unfoldable pub numeral_from : ℕ → ℕ → ℕ → List ℕ → Option ℕ
numeral_from radix most n digits =
    if list_all (is_digit radix) digits && nat_le (digits_value_after radix n digits) most then Some (digits_value_after radix n digits)
    else None

-- more digits make no smaller number
grown : (n radix : ℕ) → 1 ≤ radix → n ≤ n * radix
grown n radix h = le-mul_of_pos_right n h

chain : (a b d e : ℕ) → a ≤ b → b + d ≤ e → a ≤ e
chain a b d e h k = omega arith

after_le : (radix n : ℕ) (digits : List ℕ) → 1 ≤ radix → n ≤ digits_value_after radix n digits
after_le radix n [] h = omega arith
after_le radix n (c ∷ cs) h = chain n (n * radix) (digit_value c) _ (grown n radix h) (after_le radix (n * radix + digit_value c) cs h)

-- ---- two tests

passes : (t u : Bool) (x v : ℕ) → (if t && u then Some x else None) ≡ Some v → (t ≡ true) × (u ≡ true) × (x ≡ v)
passes true true x v h = (refl, refl, cc)
passes true false x v h = absurd (cc)
passes false u x v h = absurd (cc)

fails : (t u : Bool) (x : ℕ) → (if t && u then Some x else None) ≡ None → (t ≡ false) ⊎ (u ≡ false)
fails true true x h = absurd (cc)
fails true false x h = inr refl
fails false u x h = inl refl

no_second : (t u : Bool) (x : ℕ) → u ≡ false → (if t && u then Some x else None) ≡ None
no_second true u x h = rw h refl
no_second false u x h = refl

not_le : (m n : ℕ) → nat_le n m ≡ false → m < n
not_le m n h = grind (arith, nat_tests)

below : (m n p : ℕ) → m < n → n ≤ p → m < p
below m n p h k = omega arith

is_not_le : (m n : ℕ) → m < n → nat_le n m ≡ false
is_not_le m n h = grind (arith, nat_tests)

pub numeral_start : (radix most : ℕ) (digits : List ℕ) → 0 < length digits → numeral_from radix most 0 digits ≡ numeral radix most digits
unfolding numeral numeral_from
numeral_start radix most digits h = grind (arith, nat_tests)

pub numeral_empty : (radix most : ℕ) (digits : List ℕ) → length digits ≡ 0 → None ≡ numeral radix most digits
unfolding numeral
numeral_empty radix most digits h = rw h refl

numeral_cons : (radix most n c v : ℕ) (cs : List ℕ) → with_digit radix most n c ≡ Some v → numeral_from radix most n (c ∷ cs) ≡ numeral_from radix most v cs
unfolding numeral_from with_digit
numeral_cons radix most n c v cs h =
    let p = passes (is_digit radix c) (nat_le (n * radix + digit_value c) most) (n * radix + digit_value c) v h in
    rw (p.0, p.2) refl

numeral_no : (radix most n c : ℕ) (cs : List ℕ) → 1 ≤ radix → with_digit radix most n c ≡ None → numeral_from radix most n (c ∷ cs) ≡ None
unfolding numeral_from with_digit
numeral_no radix most n c cs one h =
    ⊎_elim
    (λ e. rw e refl)
    (λ e.
    let x : ℕ = n * radix + digit_value c in
    let large : most < digits_value_after radix x cs = below most x _ (not_le most x e) (after_le radix x cs one) in
    no_second (is_digit radix c && list_all (is_digit radix) cs) (nat_le (digits_value_after radix x cs) most) _ (is_not_le most (digits_value_after radix x cs) large))
    (fails (is_digit radix c) (nat_le (n * radix + digit_value c) most) (n * radix + digit_value c) h)

pub numeral_next : (radix most n v : ℕ) (digits : List ℕ) (i c d : ℕ) → i < length digits → c ≡ get_or digits i d → with_digit radix most n c ≡ Some v → numeral_from radix most n (drop i digits) ≡ numeral_from radix most v (drop (i + 1) digits)
numeral_next radix most n v digits i c d lt is h =
    rw (drop-cons digits i d lt, ← is, add-one) (numeral_cons radix most n c v (drop (suc i) digits) h)

pub numeral_none : (radix most n : ℕ) (digits : List ℕ) (i c d : ℕ) → 1 ≤ radix → i < length digits → c ≡ get_or digits i d → with_digit radix most n c ≡ None → numeral_from radix most n (drop i digits) ≡ None
numeral_none radix most n digits i c d one lt is h =
    rw (drop-cons digits i d lt, ← is) (numeral_no radix most n c (drop (suc i) digits) one h)

pub numeral_done : (radix most n : ℕ) (digits : List ℕ) (i : ℕ) → length digits ≤ i → n ≤ most → numeral_from radix most n (drop i digits) ≡ Some n
unfolding numeral_from
numeral_done radix most n digits i le h = rw (drop_all i digits le) (grind (arith, nat_tests))

pub ruleset numeral_steps = (numeral_start, numeral_next, numeral_none, numeral_done)
