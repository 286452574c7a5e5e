-- A table: rows that map columns to numbers.
use Rattle.std.specs.Prelude.{ℕ, zero, suc, ◌-◌, ◌^◌, ◌<◌, ◌++◌, List, [], ◌∷◌, Option, Some, None, cond, nat_eq, slice_index_or}
use Rattle.jm_tables.specs.declared.table.Cell.{Cell}

abbrev pub Row : Type 0
Row = ℕ → Option ℕ

-- what a row has in its columns, in their order
unfoldable pub by_column : ℕ → Row → List (Option ℕ)
by_column zero row = []
by_column (suc n) row = row 0 ∷ by_column n (λ k. row (suc k))

-- how many columns there are, and the rows in the order in which they were added
pub record TableView : Type 0 where
  pub columns : ℕ
  pub rows : List (List (Option ℕ))

abbrev pub empty_row : Row
empty_row = λ column. None

abbrev pub or_number : Option ℕ → Option ℕ → Option ℕ
or_number (Some n) other = Some n
or_number None other = other

-- the first row's numbers, and the other's where it has none
abbrev pub or_row : Row → Row → Row
or_row row other = λ column. or_number (row column) (other column)

-- the row of a number: an empty one where there is none
abbrev pub row_at : List (List (Option ℕ)) → ℕ → Row
row_at rows n = λ column. slice_index_or (slice_index_or rows n []) column None

-- of several rows, the first that has a number in a column gives it
abbrev pub first_of : List (List (Option ℕ)) → List ℕ → Row
first_of rows [] = empty_row
first_of rows (n ∷ ns) = or_row (row_at rows n) (first_of rows ns)

-- the row with another number in a column
abbrev pub with_number : Row → ℕ → ℕ → Row
with_number row column number = λ k. cond (nat_eq k column) (Some number) (row k)

-- the row with cells put over it in their order
unfoldable pub with_cells : Row → List Cell → Row
with_cells row [] = row
with_cells row (c ∷ cs) = with_cells (with_number row c.column c.number) cs

-- a cell's column is one of so many, and its number fits
abbrev pub IsCellOf : ℕ → Cell → Type 0
IsCellOf columns c = (c.column < columns) × (c.number < 2 ^ 32 - 1)

-- the table with a row at its end
abbrev pub with_row : TableView → Row → TableView
with_row t row = record t { rows = t.rows ++ by_column t.columns row ∷ [] }
