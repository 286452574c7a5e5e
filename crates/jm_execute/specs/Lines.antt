-- The lines that some bytes spell.
use Rattle.std.specs.Prelude.{◌≡◌, ◌≢◌, ◌==◌, ℕ, List, [], ◌∷◌, ◌++◌, Bool, true, false, if◌then◌else◌}
use Rattle.std.specs.List.{All}

-- lines with a byte in front of the first
abbrev pub led_by : ℕ → List (List ℕ) → List (List ℕ)
led_by byte [] = (byte ∷ []) ∷ []
led_by byte (line ∷ lines) = (byte ∷ line) ∷ lines

-- a line ends at a line feed, which is none of its bytes; the last one may lack it, if it is not empty
abbrev pub lines_in : List ℕ → List (List ℕ)
lines_in [] = []
lines_in (byte ∷ bytes) = if byte == 10 then [] ∷ lines_in bytes else led_by byte (lines_in bytes)

-- bytes within a line
abbrev pub IsWithinLine : List ℕ → Type 0
IsWithinLine bytes = All (λ byte. byte ≢ 10) bytes

-- the bytes up to a line feed are moved behind those of a line, or all of them where there is none
abbrev pub MovesLine : Bool → List ℕ → List ℕ → List ℕ → List ℕ → Type 0
MovesLine true old line rest longer = (part : List ℕ) × IsWithinLine part × (old ≡ part ++ 10 ∷ rest) × (longer ≡ line ++ part)
MovesLine false old line rest longer = IsWithinLine old × (rest ≡ []) × (longer ≡ line ++ old)
