-- Rows as trees of nodes: a node has a number for each digit, of a node below or of a cell.
use Rattle.std.specs.Prelude.{◌≡◌, ℕ, zero, suc, ◌*◌, ◌/◌, ◌%◌, ◌^◌, ◌<◌, ◌≤◌, List, [], ◌++◌, Option, Some, None, Bool, true, ◌&&◌, length, nat_eq}
use Rattle.std.specs.Prelude.{slice_index, slice_index_or}
use Rattle.std.specs.List.{All}
use Rattle.jm_tables.specs.Tables.{Row, by_column}

-- the digit of a column, to the base 16, at a level: the lowest is that of level 0
abbrev pub digit_at : ℕ → ℕ → ℕ
digit_at level column = column / 2 ^ (4 * level) % 16

abbrev pub child_of : List (List ℕ) → ℕ → ℕ → ℕ
child_of nodes node digit = slice_index (slice_index_or nodes node []) digit

-- what is found from a node down along the digits of a column
unfoldable pub found_from : List (List ℕ) → ℕ → ℕ → ℕ → ℕ
found_from nodes zero node column = node
found_from nodes (suc level) node column = found_from nodes level (child_of nodes node (digit_at level column)) column

-- the nodes from one down are there
unfoldable pub IsThere : List (List ℕ) → ℕ → ℕ → Type 0
IsThere nodes zero node = Unit {0}
IsThere nodes (suc level) node = (node < length nodes) × ((digit : ℕ) → digit < 16 → IsThere nodes level (child_of nodes node digit))

-- nothing stands in the first node
abbrev pub IsFirstEmpty : List (List ℕ) → Type 0
IsFirstEmpty nodes = (0 < length nodes) × ((digit : ℕ) → digit < 16 → child_of nodes 0 digit ≡ 0)

-- the columns agree in their digits below a level
unfoldable pub agree : ℕ → ℕ → ℕ → Bool
agree zero a b = true
agree (suc level) a b = nat_eq (digit_at level a) (digit_at level b) && agree level a b

-- more nodes after those that were there
abbrev pub IsLonger : List (List ℕ) → List (List ℕ) → Type 0
IsLonger old new = (more : List (List ℕ)) × (new ≡ old ++ more)

-- a cell's number is kept one higher, and 0 is none
abbrev pub number_of : ℕ → Option ℕ
number_of zero = None
number_of (suc n) = Some n

-- the first, or else the second
abbrev pub or_entry : ℕ → ℕ → ℕ
or_entry zero b = b
or_entry (suc a) b = suc a

-- the row of a tree, whatever the columns
abbrev pub tree_row : List (List ℕ) → ℕ → ℕ → Row
tree_row nodes levels root = λ column. number_of (found_from nodes levels root column)

-- the root of a row: of an empty one where there is none of the number
abbrev pub root_at : List ℕ → ℕ → ℕ
root_at roots n = slice_index roots n

-- the row that a root stands for, of so many columns
abbrev pub row_from : List (List ℕ) → ℕ → ℕ → ℕ → List (Option ℕ)
row_from nodes columns levels root = by_column columns (tree_row nodes levels root)

-- what is kept of a table: its levels serve all its columns, and its roots are there
pub record IsTable (columns levels : ℕ) (nodes : List (List ℕ)) (roots : List ℕ) : Type 0 where
  pub few : levels ≤ 8
  pub serve : columns ≤ 2 ^ (4 * levels)
  pub empty : IsFirstEmpty nodes
  pub there : All (IsThere nodes levels) roots
