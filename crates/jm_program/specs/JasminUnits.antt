-- Names and strings in a line of Jasmin: what cannot stand there as it is becomes \uXXXX.
use Rattle.std.specs.Prelude.{ℕ, ◌/◌, ◌%◌, List, [], ◌∷◌, ◌++◌, Bool, true, false, ◌||◌, ◌==◌, nat_lt, nat_le, Option, Some, None, if◌then◌else◌, codes, encode_utf8}
use Rattle.std.specs.Fmt.{digits}
use Rattle.jm_program.specs.Surrogates.{is_high, is_low, is_surrogate, character_of}
use Rattle.jm_program.specs.declared.jasmin.units.Context.{Context}
use Rattle.jm_program.specs.declared.jasmin.units.Context.TheVariants.{InName, InString}

-- a blank, a control character, ; or \ in a name; a control character, " or \ in a string; a
-- surrogate without its partner in both
abbrev pub is_escaped : Context → ℕ → Bool
is_escaped InName u = nat_le u 32 || u == 59 || u == 92 || u == 127 || is_surrogate u
is_escaped InString u = nat_lt u 32 || u == 34 || u == 92 || u == 127 || is_surrogate u

-- \uXXXX
unfoldable pub escape_text : ℕ → List ℕ
escape_text u = codes "\\u" ++ digits 16 false (u / 4096) ++ digits 16 false (u / 256 % 16) ++ digits 16 false (u / 16 % 16) ++ digits 16 false (u % 16)

unfoldable pub unit_text : Context → ℕ → List ℕ
unit_text place u = if is_escaped place u then escape_text u else encode_utf8 u

unfoldable pub pair_text : ℕ → ℕ → List ℕ
pair_text high low = encode_utf8 (character_of high low)

-- a first unit that no second one followed
unfoldable pub lone_text : Option ℕ → List ℕ
lone_text None = []
lone_text (Some high) = escape_text high

-- a unit that is no first one, after a first one that waits for its second
unfoldable pub after_text : Context → Option ℕ → ℕ → List ℕ
after_text place None u = unit_text place u
after_text place (Some high) u = if is_low u then pair_text high u else escape_text high ++ unit_text place u

-- one more unit: a first one waits
unfoldable pub step_text : Context → Option ℕ → ℕ → List ℕ
step_text place waiting u = if is_high u then lone_text waiting else after_text place waiting u

abbrev pub waits : ℕ → Option ℕ
waits u = if is_high u then Some u else None

unfoldable pub text_from : Context → Option ℕ → List ℕ → List ℕ
text_from place waiting [] = lone_text waiting
text_from place waiting (u ∷ units) = step_text place waiting u ++ text_from place (waits u) units

-- the text of a name, and of what stands between the quotes of a string
abbrev pub name_text : List ℕ → List ℕ
name_text = text_from InName None

abbrev pub string_text : List ℕ → List ℕ
string_text = text_from InString None
