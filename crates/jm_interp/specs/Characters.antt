-- Text that is written behind what was written before, one code unit after the other.
use Rattle.std.specs.Prelude.{◌≡◌, ℕ, List, ◌++◌, Option, Some, None, IsTrue}
use Rattle.jm_program.specs.Surrogates.{is_high}
use Rattle.jm_world.specs.Text.{utf8_after}

-- what was written before stays in front
abbrev pub Continues : List ℕ → List ℕ → Type 0
Continues old new = (more : List ℕ) × (new ≡ old ++ more)

-- a text is behind it that is so
abbrev pub Said : List ℕ → List ℕ → (List ℕ → Type 0) → Type 0
Said old new Gives = (said : List ℕ) × Gives said × (new ≡ old ++ said)

-- a code unit that waits for the second half is a first one
abbrev pub IsHalf : Option ℕ → Type 0
IsHalf None = Unit {0}
IsHalf (Some unit) = IsTrue (is_high unit)

-- with the text of whatever comes after these code units, it is the text of them and that
abbrev pub WritesUnits : List ℕ → Option ℕ → List ℕ → List ℕ → Option ℕ → Type 0
WritesUnits old half units new waits = (us : List ℕ) → new ++ utf8_after waits us ≡ old ++ utf8_after half (units ++ us)
