-- What classes inherit: each has numbers of its own in columns, over those of the classes right
-- above it, of which the first that has one in a column gives it (JVMS 2.1, 5.3.5).
use Rattle.std.specs.Prelude.{◌≡◌, ℕ, zero, suc, ◌<◌, ◌^◌, List, [], ◌∷◌, Some, None, length, slice_get}
use Rattle.std.specs.List.{All}
use Rattle.jm_tables.specs.Tables.{Row, empty_row, or_row, with_cells}
use Rattle.jm_tables.specs.declared.inheritance.Declared.{Declared}

abbrev pub first_above : (ℕ → Row) → List ℕ → Row
first_above row [] = empty_row
first_above row (p ∷ ps) = or_row (row p) (first_above row ps)

-- what a class has, over at most so many classes up
unfoldable pub inherited : ℕ → List Declared → ℕ → Row
inherited zero classes class = empty_row
inherited (suc n) classes class = elim (slice_get classes class)
    [ None ↦ empty_row | Some d ↦ with_cells (first_above (inherited n classes) d.above.items) d.own.items ]

-- the class stands in the order before a place
abbrev pub StandsBefore : List ℕ → ℕ → ℕ → Type 0
StandsBefore order place class = (i : ℕ) × (i < place) × (slice_get order i ≡ Some class)

-- an order of all classes, each after those right above it
pub record IsOrder (classes : List Declared) (order : List ℕ) : Type 0 where
  pub few : length classes < 2 ^ 32
  pub many : length order ≡ length classes
  pub all : (class : ℕ) → class < length classes → StandsBefore order (length order) class
  pub after : (i class : ℕ) → slice_get order i ≡ Some class → (d : Declared) × (slice_get classes class ≡ Some d) × All (StandsBefore order i) d.above.items
