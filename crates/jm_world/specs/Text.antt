-- What print and println write: a number in decimal digits, text in UTF-8.
use Rattle.std.specs.Prelude.{ℕ, ◌%◌, ◌^◌, List, [], ◌∷◌, ◌++◌, Option, Some, None, true, false, ℤ, encode_utf8}
use Rattle.std.specs.Fmt.{signed_decimal}
use Rattle.std.specs.Int.{w32, cast_unsigned}
use Rattle.jm_program.specs.Surrogates.{is_high, is_low, character_of}
use Rattle.jm_values.specs.declared.value.Value.{Value}
use Rattle.jm_values.specs.declared.value.Value.TheVariants.{Int}

-- a code unit that is no first half; a lone second half is ?
abbrev pub unit_text : ℕ → List ℕ
unit_text u = elim (is_low u) [ true ↦ 63 ∷ [] | false ↦ encode_utf8 u ]

-- the character of a pair
abbrev pub pair_text : ℕ → ℕ → List ℕ
pair_text high low = encode_utf8 (character_of high low)

-- code units in UTF-8, after a first half if there is one; a lone half is ?
abbrev pub utf8_after : Option ℕ → List ℕ → List ℕ
utf8_after None [] = []
utf8_after (Some high) [] = 63 ∷ []
utf8_after None (u ∷ us) = elim (is_high u) [ true ↦ utf8_after (Some u) us | false ↦ unit_text u ++ utf8_after None us ]
utf8_after (Some high) (u ∷ us) = elim (is_low u) [
  | true ↦ pair_text high u ++ utf8_after None us
  | false ↦ elim (is_high u) [
    | true ↦ 63 ∷ utf8_after (Some u) us
    | false ↦ 63 ∷ unit_text u ++ utf8_after None us
  ]
]

abbrev pub utf8_text : List ℕ → List ℕ
utf8_text units = utf8_after None units

-- a char is the low 16 bits of its int, and by itself a surrogate is ?
abbrev pub char_text : ℤ → List ℕ
char_text n = utf8_text (cast_unsigned w32 n % 2 ^ 16 ∷ [])

abbrev pub number_text : ℤ → List ℕ
number_text n = signed_decimal n

-- the code units of an array of chars
abbrev pub units_of : List Value → List ℕ
units_of [] = []
units_of (Int n ∷ vs) = cast_unsigned w32 n % 2 ^ 16 ∷ units_of vs
units_of (v ∷ vs) = units_of vs
