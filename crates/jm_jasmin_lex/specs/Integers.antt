-- The value of a number (Jasmin User Guide, "Numbers and Strings").
use Rattle.std.specs.Prelude.{ℕ, ℤ, pos, neg_ℤ, ◌+◌, ◌-◌, ◌*◌, ◌^◌, List, length, drop, Bool, ◌&&◌, ◌==◌, nat_lt, nat_le, Option, Some, None, slice_index, if◌then◌else◌}
use Rattle.std.specs.List.{list_all}
use Rattle.std.specs.Char.{digit_value}
use Rattle.std.specs.Str.Parse.{digits_value}

abbrev pub is_digit : ℕ → ℕ → Bool
is_digit radix c = nat_lt (digit_value c) radix

-- one digit or more and nothing else, of a number of at most so much
unfoldable pub numeral : ℕ → ℕ → List ℕ → Option ℕ
numeral radix most digits =
    if nat_lt 0 (length digits) && list_all (is_digit radix) digits && nat_le (digits_value radix digits) most then Some (digits_value radix digits)
    else None

-- the number with one more digit behind it
unfoldable pub with_digit : ℕ → ℕ → ℕ → ℕ → Option ℕ
with_digit radix most n c =
    if is_digit radix c && nat_le (n * radix + digit_value c) most then Some (n * radix + digit_value c)
    else None

abbrev pub positive : Option ℕ → Option ℤ
positive None = None
positive (Some n) = Some (pos n)

abbrev pub negative : Option ℕ → Option ℤ
negative None = None
negative (Some n) = Some (neg_ℤ (pos n))

-- 0x and hexadecimal digits, - and decimal digits, or decimal digits, in 64 bits of two's complement
unfoldable pub integer_of : List ℕ → Option ℤ
integer_of text =
    if slice_index text 0 == 48 && slice_index text 1 == 120 then positive (numeral 16 (2 ^ 63 - 1) (drop 2 text))
    else if slice_index text 0 == 45 then negative (numeral 10 (2 ^ 63) (drop 1 text))
    else positive (numeral 10 (2 ^ 63 - 1) text)
