-- The bytes that are written for a value.
use Rattle.std.specs.Prelude.{ℕ, ℤ, ◌+◌, List, [], ◌∷◌, ◌++◌, length}
use Rattle.std.specs.Int.{Width, to_be_bytes, cast_unsigned}

-- the bytes of a signed number: those of its two's complement, high byte first
abbrev pub signed_bytes : Width → ℤ → List ℕ
signed_bytes w z = to_be_bytes w (cast_unsigned w z)

-- one after the other from an offset on, where the bytes of each may depend on its offset
abbrev pub run_text : {A : Type 0} → (ℕ → A → List ℕ) → ℕ → List A → List ℕ
run_text text at [] = []
run_text text at (x ∷ xs) = text at x ++ run_text text (at + length (text at x)) xs

-- the text of each spells it
abbrev pub EachSpells : {A : Type 0} → (List ℕ → A → Type 0) → (A → List ℕ) → List A → Type 0
EachSpells Spells text [] = Unit {0}
EachSpells Spells text (x ∷ xs) = Spells (text x) x × EachSpells Spells text xs
