-- Numbers in decimal digits, read as a schedule's lines are.
use Rattle.std.proofs.Common.{◌≡◌, ℕ, ◌+◌, ◌-◌, ◌*◌, ◌^◌, ◌<◌, ◌≤◌, List, [], ◌∷◌, ◌++◌, Some, None, Bool, true, false, refl, ap, ap₂, ◌∙◌, arith, length}
use Rattle.std.specs.Prelude.{◌&&◌, nat_eq, nat_le}
use Rattle.std.specs.Char.{digit_value}
use Rattle.std.specs.Fmt.{decimal}
use Rattle.std.specs.List.{AllByRecursion, list_all}
use Rattle.std.specs.Str.Parse.{AllDigits, digits_value_after}
use Rattle.std.proofs.lemmas.Bool.Decides.{nat_tests}
use Rattle.std.proofs.lemmas.Fmt.{decimal_is_IsNumeral}
use Rattle.std.proofs.lemmas.Str.{digit_value_digit}
use Rattle.std.proofs.lemmas.Str.Parse.{digit_from_value}
use Rattle.jm_world.specs.Schedules.{digits_value, is_digit, number_within, value_after, value_within}

-- no byte of a text is this one
abbrev pub Lacks : ℕ → List ℕ → Type 0
Lacks b text = AllByRecursion (λ c. nat_eq c b ≡ false) text

pub lacks_both : (b : ℕ) (xs ys : List ℕ) → Lacks b xs → Lacks b ys → Lacks b (xs ++ ys)
lacks_both b [] ys some others = others
lacks_both b (x ∷ xs) ys some others = (some.0, lacks_both b xs ys some.1 others)

digits_lack : (b : ℕ) (ds : List ℕ) → b < 48 → AllDigits 10 ds → Lacks b ds
digits_lack b [] low digits = tt
digits_lack b (c ∷ cs) low digits =
    let range = digit_from_value c digits.0 in
    let other : nat_eq c b ≡ false = grind (arith, nat_tests, range.0, low) in
    (other, digits_lack b cs low digits.1)

pub decimal_lacks : (b n : ℕ) → b < 48 → n < 2 ^ 64 → Lacks b (decimal n)
decimal_lacks b n low small = digits_lack b (decimal n) low (decimal_is_IsNumeral n small).0.1

digit_is : (c : ℕ) → digit_value c < 10 → is_digit c ≡ true
digit_is c small =
    let range = digit_from_value c small in
    let low : nat_le 48 c ≡ true = grind (arith, nat_tests, range.0) in
    let high : nat_le c 57 ≡ true = grind (arith, nat_tests, range.1) in
    ap₂ (λ (x y : Bool). x && y) low high

digits_are : (ds : List ℕ) → AllDigits 10 ds → list_all is_digit ds ≡ true
digits_are [] digits = refl
digits_are (c ∷ cs) digits = ap₂ (λ (x y : Bool). x && y) (digit_is c digits.0) (digits_are cs digits.1)

value_is : (n : ℕ) (ds : List ℕ) → AllDigits 10 ds → value_after n ds ≡ digits_value_after 10 n ds
value_is n [] digits = refl
value_is n (c ∷ cs) digits =
    let same : c - 48 ≡ digit_value c = omega (arith, digit_value_digit c (digit_from_value c digits.0)) in
    ap (λ (k : ℕ). value_after (n * 10 + k) cs) same ∙ value_is (n * 10 + digit_value c) cs digits.1

some_value : (ds : List ℕ) → 0 < length ds → list_all is_digit ds ≡ true → digits_value ds ≡ Some (value_after 0 ds)
some_value [] some digits = absurd (omega (arith, some))
some_value (b ∷ bs) some digits = ap (λ (t : Bool). elim t [ true ↦ Some (value_after 0 (b ∷ bs)) | false ↦ None ]) digits

decimal_value : (n : ℕ) → n < 2 ^ 64 → digits_value (decimal n) ≡ Some n
decimal_value n small =
    let p = decimal_is_IsNumeral n small in
    some_value (decimal n) p.0.0 (digits_are (decimal n) p.0.1) ∙ ap Some (value_is 0 (decimal n) p.0.1 ∙ p.1)

within_limits : (low high n : ℕ) → low ≤ n → n ≤ high → value_within low high (Some n) ≡ Some n
within_limits low high n above below =
    let first : nat_le low n ≡ true = grind (arith, nat_tests, above) in
    let second : nat_le n high ≡ true = grind (arith, nat_tests, below) in
    ap (λ (t : Bool). elim t [ true ↦ Some n | false ↦ None ]) (ap₂ (λ (x y : Bool). x && y) first second)

pub number_spelled : (low high n : ℕ) → n < 2 ^ 64 → low ≤ n → n ≤ high → number_within low high (decimal n) ≡ Some n
number_spelled low high n small above below = ap (value_within low high) (decimal_value n small) ∙ within_limits low high n above below
