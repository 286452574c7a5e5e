-- The value of a string, by what stands between its quotes (Jasmin User Guide, "Numbers and Strings").
use Rattle.std.specs.Prelude.{◌≡◌, ℕ, false, ◌+◌, ◌-◌, ◌*◌, List, [], ◌∷◌, ◌++◌, ◌==◌, ◌<◌, nat_le, ◌&&◌, ◌||◌, if◌then◌else◌}
use Rattle.std.specs.Str.{chars}
use Rattle.std.specs.Char.Escape.{encode_utf16}
use Rattle.jm_jasmin_lex.specs.declared.string.Part.{Part}
use Rattle.jm_jasmin_lex.specs.declared.string.Part.TheVariants.{Before, Plain, Escape, First, Second, Third, Fourth, Behind}

-- the value of a hexadecimal digit
unfoldable pub hexadecimal_value : ℕ → ℕ
hexadecimal_value c =
    if nat_le 48 c && nat_le c 57 then c - 48
    else if nat_le 65 c && nat_le c 70 then c - 55
    else if nat_le 97 c && nat_le c 102 then c - 87
    else 0

-- the code unit of \n, \t, \" or \\, by what stands behind the backslash
unfoldable pub escaped_unit : ℕ → ℕ
escaped_unit c =
    if c == 110 then 10
    else if c == 116 then 9
    else if c == 34 then 34
    else 92

-- what the digits so far can give
abbrev pub IsSmall : Part → Type 0
IsSmall (Second value) = value < 16
IsSmall (Third value) = value < 256
IsSmall (Fourth value) = value < 4096
IsSmall _ = Unit {0}

-- where the next character stands
unfoldable pub part_after : Part → ℕ → Part
part_after Before c = Plain
part_after Plain c = if c == 34 then Behind else if c == 92 then Escape else Plain
part_after Escape c = if c == 117 then First else Plain
part_after First c = Second (hexadecimal_value c)
part_after (Second value) c = Third (value * 16 + hexadecimal_value c)
part_after (Third value) c = Fourth (value * 16 + hexadecimal_value c)
part_after (Fourth value) c = Plain
part_after Behind c = Behind

-- the code units that a character gives there: its own, or that of the escape that it ends
unfoldable pub units_at : Part → ℕ → List ℕ
units_at Plain c = if c == 34 || c == 92 then [] else encode_utf16 c
units_at Escape c = if c == 117 then [] else escaped_unit c ∷ []
units_at (Fourth value) c = (value * 16 + hexadecimal_value c) ∷ []
units_at _ c = []

unfoldable pub units_from : Part → List ℕ → List ℕ
units_from part [] = []
units_from part (c ∷ cs) = units_at part c ++ units_from (part_after part c) cs

-- the code units of a string as it is written, quotes included
unfoldable pub units_of_literal : List ℕ → List ℕ
units_of_literal text = units_from Before (chars text)

-- The same by rules: the characters between the quotes, and the code units that they stand for. A \ stands only before n, t, ", \ or
-- u and four digits.
pub data Value : List ℕ → List ℕ → Type 0 where
  none : Value [] []
  character : (c : ℕ) {cs units : List ℕ} → (c == 34) ≡ false → (c == 92) ≡ false → Value cs units → Value (c ∷ cs) (encode_utf16 c ++ units)
  line_feed : {cs units : List ℕ} → Value cs units → Value (92 ∷ 110 ∷ cs) (10 ∷ units)
  tab : {cs units : List ℕ} → Value cs units → Value (92 ∷ 116 ∷ cs) (9 ∷ units)
  quote : {cs units : List ℕ} → Value cs units → Value (92 ∷ 34 ∷ cs) (34 ∷ units)
  backslash : {cs units : List ℕ} → Value cs units → Value (92 ∷ 92 ∷ cs) (92 ∷ units)
  unit : (a b c d : ℕ) {cs units : List ℕ} → Value cs units
      → Value (92 ∷ 117 ∷ a ∷ b ∷ c ∷ d ∷ cs) ((((hexadecimal_value a * 16 + hexadecimal_value b) * 16 + hexadecimal_value c) * 16 + hexadecimal_value d) ∷ units)
