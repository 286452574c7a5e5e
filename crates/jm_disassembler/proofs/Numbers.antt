-- Numbers as words, and what is read of them.
use Rattle.std.proofs.Common.{◌≡◌, ℕ, suc, ◌-◌, ◌<◌, ◌≤◌, ◌^◌, ◌==◌, Bool, true, false, not, ◌&&◌, ◌||◌, List, [], ◌∷◌, length, drop, Some, refl}
use Rattle.std.proofs.Common.{arith, nat_lt, nat_le}
use Rattle.std.specs.Prelude.{ℤ, pos, negsuc, slice_index, if◌then◌else◌}
use Rattle.std.specs.List.{list_all}
use Rattle.std.specs.Fmt.{decimal, signed_decimal}
use Rattle.std.specs.Str.Parse.{AllDigits}
use Rattle.std.proofs.lemmas.Fmt.{decimal_is_IsNumeral}
use Rattle.std.proofs.lemmas.Str.Parse.{digit_at}
use Rattle.std.proofs.lemmas.Bool.Decides.{nat_tests}
use Rattle.std.proofs.lemmas.Bool.{and_from}
use Rattle.jm_program.proofs.Truths.{both_true, and_false}
use Rattle.jm_jasmin_lex.specs.Integers.{is_digit, numeral, integer_of}
use Rattle.jm_jasmin_ops.specs.Profile as profile
use Rattle.jm_jasmin_ops.specs.Profile.{begins_with, is_named, is_real, is_offset, has_colon}
use Rattle.jm_disassembler.proofs.Laid.{is_word_byte, is_word}
use Rattle.jm_disassembler.proofs.Spelled.{Spelled}
use Rattle.jm_disassembler.proofs.Types.{is_ascii_word, ascii_spelled}

-- ---- digits

abbrev pub is_decimal : ℕ → Bool
is_decimal b = nat_le 48 b && nat_le b 57

decimal_digit : (c : ℕ) (cs : List ℕ) → AllDigits 10 (c ∷ cs) → is_decimal c ≡ true
decimal_digit c cs h =
    let r = digit_at (c ∷ cs) 0 h (omega arith) in
    grind (arith, nat_tests, r)

all_decimal : (ds : List ℕ) → AllDigits 10 ds → list_all is_decimal ds ≡ true
all_decimal [] h = refl
all_decimal (c ∷ cs) h = and_from (is_decimal c) (list_all is_decimal cs) (decimal_digit c cs h) (all_decimal cs h.1)

all_digits : (ds : List ℕ) → AllDigits 10 ds → list_all (is_digit 10) ds ≡ true
all_digits [] h = refl
all_digits (c ∷ cs) h = and_from (is_digit 10 c) (list_all (is_digit 10) cs) (less h.0) (all_digits cs h.1)
  where
    less : {n : ℕ} → n < 10 → nat_lt n 10 ≡ true
    less {n} lt = grind (arith, nat_tests)

decimal_ascii : (b : ℕ) → is_decimal b ≡ true → is_ascii_word b ≡ true
decimal_ascii b h = grind (arith, nat_tests)

all_ascii : (ds : List ℕ) → list_all is_decimal ds ≡ true → list_all is_ascii_word ds ≡ true
all_ascii [] h = refl
all_ascii (b ∷ bs) h =
    let p = both_true (is_decimal b) (list_all is_decimal bs) h in
    and_from (is_ascii_word b) (list_all is_ascii_word bs) (decimal_ascii b p.0) (all_ascii bs p.1)

-- ---- decimal numbers

pub record IsNumber (ds : List ℕ) : Type 0 where
  pub some : 0 < length ds
  pub digits : AllDigits 10 ds
  pub decimals : list_all is_decimal ds ≡ true

pub decimal_is : (n : ℕ) → n < 2 ^ 64 → IsNumber (decimal n)
decimal_is n lt =
    let p = decimal_is_IsNumeral n lt in
    record { some = p.0.0; digits = p.0.1; decimals = all_decimal (decimal n) p.0.1 }

pub decimal_spelled : (n : ℕ) → n < 2 ^ 64 → Spelled (decimal n) (decimal n)
decimal_spelled n lt = ascii_spelled (decimal n) (all_ascii (decimal n) (decimal_is n lt).decimals)

-- a word of digits, or of a letter and digits
pub word_of_digits : (ds : List ℕ) → IsNumber ds → is_word ds ≡ true
word_of_digits [] h = absurd (omega (arith, h.some))
word_of_digits (b ∷ bs) h =
    let p = both_true (is_decimal b) (list_all is_decimal bs) h.decimals in
    let first : is_decimal b ≡ true = p.0 in
    let begins : not (b == 59 || b == 34) ≡ true = grind (arith, nat_tests) in
    let bytes : list_all is_word_byte (b ∷ bs) ≡ true = (ascii_spelled (b ∷ bs) (all_ascii (b ∷ bs) h.decimals)).bytes in
    and_from (not (b == 59 || b == 34)) (list_all is_word_byte (b ∷ bs)) begins bytes

numeral_is : (most n : ℕ) → n < 2 ^ 64 → n ≤ most → numeral 10 most (decimal n) ≡ Some n
unfolding numeral
numeral_is most n lt le =
    let p = decimal_is_IsNumeral n lt in
    let some : nat_lt 0 (length (decimal n)) ≡ true = some_of (length (decimal n)) p.0.0 in
    let few : nat_le n most ≡ true = grind (arith, nat_tests) in
    rw (some, all_digits (decimal n) p.0.1, p.1, few) refl
  where
    some_of : (k : ℕ) → 0 < k → nat_lt 0 k ≡ true
    some_of k lt = grind (arith, nat_tests)

-- no number of digits begins with 0x or -
no_radix : (ds : List ℕ) → list_all is_decimal ds ≡ true → (slice_index ds 0 == 48 && slice_index ds 1 == 120) ≡ false
no_radix [] h = refl
no_radix (b ∷ []) h = and_false (b == 48)
  where
    and_false : (x : Bool) → (x && (0 == 120)) ≡ false
    and_false true = refl
    and_false false = refl
no_radix (b ∷ c ∷ cs) h =
    let p = both_true (is_decimal b) (is_decimal c && list_all is_decimal cs) h in
    let q = both_true (is_decimal c) (list_all is_decimal cs) p.1 in
    let second : is_decimal c ≡ true = q.0 in
    let no : (c == 120) ≡ false = grind (arith, nat_tests) in
    rw no (and_false (b == 48))
  where
    and_false : (x : Bool) → (x && false) ≡ false
    and_false true = refl
    and_false false = refl

no_minus : (ds : List ℕ) → list_all is_decimal ds ≡ true → (slice_index ds 0 == 45) ≡ false
no_minus [] h = refl
no_minus (b ∷ bs) h =
    let p = both_true (is_decimal b) (list_all is_decimal bs) h in
    let first : is_decimal b ≡ true = p.0 in
    grind (arith, nat_tests)

pub natural_read : (n : ℕ) → n < 2 ^ 63 → integer_of (decimal n) ≡ Some (pos n)
unfolding integer_of
natural_read n lt =
    let d = (decimal_is n (omega arith)).decimals in
    rw (no_radix (decimal n) d, no_minus (decimal n) d, numeral_is (2 ^ 63 - 1) n (omega arith) (omega arith)) refl

negative_read : (n : ℕ) → n < 2 ^ 63 → integer_of (45 ∷ decimal (suc n)) ≡ Some (negsuc n)
unfolding integer_of
negative_read n lt = rw (numeral_is (2 ^ 63) (suc n) (omega arith) (omega arith)) refl

-- a number of 64 bits in two's complement
abbrev pub IsLong : ℤ → Type 0
IsLong (pos n) = n < 2 ^ 63
IsLong (negsuc n) = n < 2 ^ 63

pub signed_read : (z : ℤ) → IsLong z → integer_of (signed_decimal z) ≡ Some z
signed_read (pos n) lt = natural_read n lt
signed_read (negsuc n) lt = negative_read n lt

pub signed_word : (z : ℤ) → IsLong z → is_word (signed_decimal z) ≡ true
signed_word (pos n) lt = word_of_digits (decimal n) (decimal_is n (omega arith))
signed_word (negsuc n) lt = (ascii_spelled (decimal (suc n)) (all_ascii (decimal (suc n)) (decimal_is (suc n) (omega arith)).decimals)).bytes

-- ---- no number is another thing

all_counted : (ds : List ℕ) → list_all is_decimal ds ≡ true → profile.digit_count ds ≡ length ds
unfolding profile.is_digit
all_counted [] h = refl
all_counted (b ∷ bs) h =
    let p = both_true (is_decimal b) (list_all is_decimal bs) h in
    rw (p.0, all_counted bs p.1) (omega arith)

no_sign : (ds : List ℕ) → list_all is_decimal ds ≡ true → profile.is_signed ds ≡ false
unfolding profile.is_signed
no_sign [] h = refl
no_sign (b ∷ bs) h =
    let p = both_true (is_decimal b) (list_all is_decimal bs) h in
    let first : is_decimal b ≡ true = p.0 in
    grind (arith, nat_tests)

all_dropped : (ds : List ℕ) → drop (length ds) ds ≡ []
all_dropped [] = refl
all_dropped (b ∷ bs) = all_dropped bs

nothing_behind : (b : Bool) → profile.is_real_behind b [] ≡ false
unfolding profile.is_real_behind profile.is_exponent
nothing_behind b = and_false b

digits_not_real : (ds : List ℕ) → list_all is_decimal ds ≡ true → profile.is_unsigned_real ds ≡ false
unfolding profile.is_unsigned_real
digits_not_real ds h = rw (all_counted ds h, all_dropped ds) (nothing_behind (nat_lt 0 (length ds)))

minus_sign : (ds : List ℕ) → profile.is_signed (45 ∷ ds) ≡ true
unfolding profile.is_signed
minus_sign ds = refl

pub signed_not_real : (z : ℤ) → IsLong z → is_real (signed_decimal z) ≡ false
unfolding is_real profile.unsigned
signed_not_real (pos n) lt =
    let d = (decimal_is n (omega arith)).decimals in
    rw (no_sign (decimal n) d) (digits_not_real (decimal n) d)
signed_not_real (negsuc n) lt = by_sign (decimal (suc n)) (decimal_is (suc n) (omega arith)).decimals
  where
    by_sign : (ds : List ℕ) → list_all is_decimal ds ≡ true
        → profile.is_unsigned_real (if profile.is_signed (45 ∷ ds) then ds else 45 ∷ ds) ≡ false
    by_sign ds d = rw (minus_sign ds) (digits_not_real ds d)

digit_names_nothing : (ds : List ℕ) → list_all is_decimal ds ≡ true → is_named ds ≡ false
digit_names_nothing [] h = refl
digit_names_nothing (b ∷ bs) h =
    let p = both_true (is_decimal b) (list_all is_decimal bs) h in
    let first : is_decimal b ≡ true = p.0 in
    grind (arith, nat_tests)

pub signed_not_named : (z : ℤ) → IsLong z → is_named (signed_decimal z) ≡ false
signed_not_named (pos n) lt = digit_names_nothing (decimal n) (decimal_is n (omega arith)).decimals
signed_not_named (negsuc n) lt = refl
