-- Bytes as they stand in the data of a film.
use Rattle.std.specs.Prelude.{◌≢◌, ℕ, ◌+◌, ◌/◌, ◌%◌, List, [], ◌∷◌, Bool, not, ◌&&◌, nat_eq, nat_le, nat_lt, if◌then◌else◌}
use Rattle.std.specs.List.{flat_map, All}

-- 0 to 9 and A to F
abbrev pub hex_digit : ℕ → ℕ
hex_digit n = if nat_lt n 10 then 48 + n else 55 + n

-- no control character, no < and no backslash
abbrev pub is_plain : ℕ → Bool
is_plain b = nat_le 32 b && not (nat_eq b 60) && not (nat_eq b 92)

-- another one is a backslash, u and four digits, as in a string of JSON
unfoldable pub escaped_byte : ℕ → List ℕ
escaped_byte b = if is_plain b then b ∷ [] else 92 ∷ 117 ∷ 48 ∷ 48 ∷ hex_digit (b / 16) ∷ hex_digit (b % 16) ∷ []

abbrev pub escaped : List ℕ → List ℕ
escaped text = flat_map escaped_byte text

-- a byte of lines that stand in one line of the data: a tab ends each
unfoldable pub joined_byte : ℕ → List ℕ
joined_byte b = if nat_eq b 10 then 9 ∷ [] else escaped_byte b

abbrev pub joined : List ℕ → List ℕ
joined text = flat_map joined_byte text

-- no < is among them, so they do not end an element of a page
abbrev pub IsHarmless : List ℕ → Type 0
IsHarmless bytes = All (λ b. b ≢ 60) bytes
