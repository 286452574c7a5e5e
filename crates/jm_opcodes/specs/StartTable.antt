-- The table of the numbers of instructions by the offsets at which they begin.
use Rattle.std.specs.Prelude.{◌≡◌, ℕ, ◌==◌, if◌then◌else◌, List, Option, Some, None, slice_index_or}
use Rattle.std.specs.List.{position}

-- at each offset, the number of the first instruction that begins there
abbrev pub IsTable : List (Option ℕ) → List ℕ → Type 0
IsTable numbers starts = (offset : ℕ) → slice_index_or numbers offset None ≡ position (λ start. start == offset) starts

-- what an offset has once an instruction is known to begin at start
abbrev pub noted : ℕ → ℕ → ℕ → Option ℕ → Option ℕ
noted start number offset None = if start == offset then Some number else None
noted start number offset (Some other) = Some other

-- the table knows one instruction more
abbrev pub Notes : List (Option ℕ) → List (Option ℕ) → ℕ → ℕ → Type 0
Notes old new start number = (offset : ℕ) → slice_index_or new offset None ≡ noted start number offset (slice_index_or old offset None)
