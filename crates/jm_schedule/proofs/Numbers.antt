-- Numbers read digit by digit.
use Rattle.std.proofs.Common.{◌≡◌, ℕ, ◌+◌, ◌-◌, ◌*◌, ◌<◌, ◌≤◌, Bool, true, false, List, [], ◌∷◌, length, drop, get_or, Option, Some, None, refl, ap, ◌∙◌, arith, nat_le, ◌&&◌, add-one}
use Rattle.std.specs.Option.{option_and_then}
use Rattle.std.proofs.lemmas.Grind.{common_steps}
use Rattle.std.proofs.Math.Seq.{drop-cons}
use Rattle.std.proofs.lemmas.Bool.Decides.{nat_tests}
use Rattle.std.specs.List.{list_all}
use Rattle.jm_world.specs.Schedules.{is_digit, value_after, value_within, number_within}
use Rattle.jm_schedule.specs.Words.{with_digit}

-- what the digits that are left make of the number so far
unfoldable pub rest_within : ℕ → ℕ → ℕ → List ℕ → Option ℕ
rest_within low high value rest = elim (list_all is_digit rest) [ true ↦ value_within low high (Some (value_after value rest)) | false ↦ None ]

within_on : (low high n : ℕ) (all : Bool) → value_within low high (elim all [ true ↦ Some n | false ↦ None ]) ≡ elim all [ true ↦ value_within low high (Some n) | false ↦ None ]
within_on low high n true = refl
within_on low high n false = refl

pub first_rest : (low high : ℕ) (word : List ℕ) → 0 < length word → number_within low high word ≡ rest_within low high 0 word
unfolding rest_within
first_rest low high [] some = absurd (omega arith)
first_rest low high (b ∷ word) some = within_on low high (value_after 0 (b ∷ word)) (list_all is_digit (b ∷ word))

-- more digits make no smaller number
value_after_grows : (n : ℕ) (bs : List ℕ) → n ≤ value_after n bs
value_after_grows n [] = omega arith
value_after_grows n (b ∷ bs) = let more : n * 10 + (b - 48) ≤ value_after (n * 10 + (b - 48)) bs = value_after_grows (n * 10 + (b - 48)) bs in omega arith

past : (low high n m : ℕ) → high < n → n ≤ m → value_within low high (Some m) ≡ None
past low high n m over more = grind (arith, nat_tests)

none_on : (all : Bool) (o : Option ℕ) → o ≡ None → elim all as (λ _. Option ℕ) [ true ↦ o | false ↦ None ] ≡ None
none_on true o is = is
none_on false o is = refl

-- a number that is within the limit, or is not
limited_on : (low high n : ℕ) (rest : List ℕ) (within : Bool) → nat_le n high ≡ within
    → elim (list_all is_digit rest) [ true ↦ value_within low high (Some (value_after n rest)) | false ↦ None ]
    ≡ option_and_then (λ v. rest_within low high v rest) (elim within [ true ↦ Some n | false ↦ None ])
unfolding rest_within
limited_on low high n rest true is = refl
limited_on low high n rest false is =
    none_on (list_all is_digit rest) (value_within low high (Some (value_after n rest))) (past low high n (value_after n rest) (grind (arith, nat_tests)) (value_after_grows n rest))

at_least_zero : (high n : ℕ) → value_within 0 high (Some n) ≡ elim (nat_le n high) [ true ↦ Some n | false ↦ None ]
at_least_zero high n = let zero : nat_le 0 n ≡ true = grind (arith, nat_tests) in rw (value_within, zero) refl

-- a digit, or another byte
digit_on : (low high value b : ℕ) (rest : List ℕ) (digit : Bool)
    → elim (digit && list_all is_digit rest) [ true ↦ value_within low high (Some (value_after value (b ∷ rest))) | false ↦ None ]
    ≡ option_and_then (λ v. rest_within low high v rest) (elim digit [ true ↦ value_within 0 high (Some (value * 10 + (b - 48))) | false ↦ None ])
digit_on low high value b rest true = rw (at_least_zero high (value * 10 + (b - 48))) (limited_on low high (value * 10 + (b - 48)) rest _ refl)
digit_on low high value b rest false = refl

rest_step : (low high value b : ℕ) (rest : List ℕ) → rest_within low high value (b ∷ rest) ≡ option_and_then (λ v. rest_within low high v rest) (with_digit high value b)
unfolding rest_within with_digit
rest_step low high value b rest = digit_on low high value b rest (is_digit b)

step_at : (low high value : ℕ) (word : List ℕ) (i : ℕ) → i < length word
    → rest_within low high value (drop i word) ≡ option_and_then (λ v. rest_within low high v (drop (i + 1) word)) (with_digit high value (get_or word i 0))
step_at low high value word i within = rw (drop-cons word i 0, ← add-one i) (rest_step low high value (get_or word i 0) (drop (i + 1) word))

pub goes_on : (low high value v : ℕ) (word : List ℕ) (i : ℕ) → i < length word → with_digit high value (get_or word i 0) ≡ Some v
    → rest_within low high value (drop i word) ≡ rest_within low high v (drop (i + 1) word)
goes_on low high value v word i within is = step_at low high value word i within ∙ ap (option_and_then (λ v. rest_within low high v (drop (i + 1) word))) is

pub ends : (low high value : ℕ) (word : List ℕ) (i : ℕ) → i < length word → with_digit high value (get_or word i 0) ≡ None
    → rest_within low high value (drop i word) ≡ None
ends low high value word i within is = step_at low high value word i within ∙ ap (option_and_then (λ v. rest_within low high v (drop (i + 1) word))) is

-- a number with a digit more is within its limit
limit_on : (high value b v : ℕ) (digit : Bool) → elim digit [ true ↦ value_within 0 high (Some (value * 10 + (b - 48))) | false ↦ None ] ≡ Some v → v ≤ high
limit_on high value b v true is = grind (arith, nat_tests)
limit_on high value b v false is = cc

pub digit_limit : (high value b v : ℕ) → with_digit high value b ≡ Some v → v ≤ high
unfolding with_digit
digit_limit high value b v is = limit_on high value b v (is_digit b) is

pub last_rest : (low high value : ℕ) (word : List ℕ) (i : ℕ) → length word ≤ i → rest_within low high value (drop i word) ≡ value_within low high (Some value)
unfolding rest_within
last_rest low high value word i past = let none : drop i word ≡ [] = grind (arith, common_steps) in rw none refl
