-- The rows of classes in a table, while they are added.
use Rattle.std.specs.Prelude.{◌≡◌, ℕ, ◌-◌, ◌^◌, ◌<◌, List, [], ◌∷◌, Some, length, slice_get}
use Rattle.jm_tables.specs.Tables.{TableView, row_at}
use Rattle.jm_tables.specs.declared.inheritance.Declared.{Declared}
use Rattle.jm_tables.specs.Inheriting.{inherited}

-- the class of a number has a row
abbrev pub IsPlaced : List ℕ → ℕ → ℕ → Type 0
IsPlaced places class row = (slice_get places class ≡ Some row) × (row < 2 ^ 32 - 1)

abbrev pub ArePlaced : List ℕ → List ℕ → List ℕ → Type 0
ArePlaced places [] [] = Unit {0}
ArePlaced places (c ∷ cs) (r ∷ rs) = IsPlaced places c r × ArePlaced places cs rs
ArePlaced places _ _ = ⊥

-- the row of a class is what it inherits, over as many classes up as there are rows before it and
-- its own
abbrev pub IsRowOf : ℕ → List Declared → TableView → ℕ → ℕ → Type 0
IsRowOf columns classes table class row =
    (row < length table.rows) × ((n column : ℕ) → row < n → column < columns → row_at table.rows row column ≡ inherited n classes class column)

unfoldable pub AreRows : List Declared → List ℕ → TableView → Type 0
AreRows classes places table = (class row : ℕ) → IsPlaced places class row → IsRowOf table.columns classes table class row

abbrev pub HasRow : List ℕ → ℕ → Type 0
HasRow places class = (row : ℕ) × IsPlaced places class row
