-- Rows as trees: numbers of entries, several rows in one, and cells over a row.
use Rattle.std.proofs.Common.{◌≡◌, ℕ, zero, suc, ◌+◌, ◌*◌, ◌^◌, ◌<◌, ◌≤◌, List, [], ◌∷◌, Option, Some, None, Bool, true, false, cond, nat_eq, map, drop}
use Rattle.std.proofs.Common.{length, get_or, refl, sym, ◌∙◌, ap, arith}
use Rattle.std.specs.List.{All}
use Rattle.std.proofs.Math.Seq.{drop-cons}
use Rattle.std.proofs.Math.ListN.{drop_of_length-le}
use Rattle.jm_tables.specs.declared.table.Cell.{Cell}
use Rattle.jm_tables.specs.Tables.{Row, or_number, by_column, row_at, first_of, with_number, with_cells}
use Rattle.jm_tables.specs.Nodes.{found_from, IsThere, IsFirstEmpty, IsLonger, number_of, or_entry, tree_row, row_from, root_at, agree}
use Rattle.jm_tables.proofs.NodeLaws.{found_empty, there_empty, there_after, found_after, agree_tells}

pub number_or : (a b : ℕ) → number_of (or_entry a b) ≡ or_number (number_of a) (number_of b)
number_or zero b = refl
number_or (suc a) b = refl

or_assoc : (a b c : Option ℕ) → or_number (or_number a b) c ≡ or_number a (or_number b c)
or_assoc (Some a) b c = refl
or_assoc None b c = refl

-- a row by its columns
pub by_column_at : (n : ℕ) (row : Row) (k : ℕ) → k < n → get_or (by_column n row) k None ≡ row k
unfolding by_column
by_column_at zero row k h = absurd (omega (arith, h))
by_column_at (suc n) row zero h = refl
by_column_at (suc n) row (suc k) h = by_column_at n (λ i. row (suc i)) k (omega (arith, h))

pub by_column_past : (n : ℕ) (row : Row) (k : ℕ) → n ≤ k → get_or (by_column n row) k None ≡ None
unfolding by_column
by_column_past zero row k h = refl
by_column_past (suc n) row zero h = absurd (omega (arith, h))
by_column_past (suc n) row (suc k) h = by_column_past n (λ i. row (suc i)) k (omega (arith, h))

pub by_column_same : (n : ℕ) (row other : Row) → ((k : ℕ) → k < n → row k ≡ other k) → by_column n row ≡ by_column n other
unfolding by_column
by_column_same zero row other h = refl
by_column_same (suc n) row other h =
    ap (λ o. o ∷ by_column n (λ k. row (suc k))) (h 0 (omega arith))
    ∙ ap (λ os. other 0 ∷ os) (by_column_same n (λ k. row (suc k)) (λ k. other (suc k)) (λ k less. h (suc k) (omega (arith, less))))

-- a root that is there, and the row of it
others_there : (nodes : List (List ℕ)) (levels r : ℕ) (rs : List ℕ) → All (IsThere nodes levels) (r ∷ rs) → All (IsThere nodes levels) rs
others_there nodes levels r rs a = λ k d h. a (suc k) d (omega (arith, h))

pub root_there : (nodes : List (List ℕ)) (levels : ℕ) (roots : List ℕ) (n : ℕ) → IsFirstEmpty nodes → All (IsThere nodes levels) roots
    → IsThere nodes levels (root_at roots n)
root_there nodes levels [] n e a = there_empty nodes levels e
root_there nodes levels (r ∷ rs) zero e a = a 0 0 (omega arith)
root_there nodes levels (r ∷ rs) (suc n) e a = root_there nodes levels rs n e (others_there nodes levels r rs a)

pub root_row : (nodes : List (List ℕ)) (columns levels : ℕ) (roots : List ℕ) (n column : ℕ) → IsFirstEmpty nodes → column < columns
    → row_at (map (row_from nodes columns levels) roots) n column ≡ number_of (found_from nodes levels (root_at roots n) column)
root_row nodes columns levels [] n column e h = sym (ap number_of (found_empty nodes levels column e))
root_row nodes columns levels (r ∷ rs) zero column e h = by_column_at columns (tree_row nodes levels r) column h
root_row nodes columns levels (r ∷ rs) (suc n) column e h = root_row nodes columns levels rs n column e h

-- one more row of several
pub merged_more : (old now next : List (List ℕ)) (levels merged root column : ℕ) (row rest : Option ℕ) → row ≡ number_of (found_from old levels root column)
    → IsLonger old now → IsThere old levels root → (new : ℕ) → found_from next levels new column ≡ or_entry (found_from now levels merged column)
    (found_from now levels root column)
    → or_number (number_of (found_from next levels new column)) rest ≡ or_number (number_of (found_from now levels merged column)) (or_number row rest)
merged_more old now next levels merged root column row rest is longer there new e =
    ap (λ o. or_number o rest) (ap number_of e ∙ number_or (found_from now levels merged column) (found_from now levels root column)
    ∙ ap (λ n. or_number (number_of (found_from now levels merged column)) (number_of n)) (found_after old now levels root column longer there)
    ∙ ap (or_number (number_of (found_from now levels merged column))) (sym is))
    ∙ or_assoc (number_of (found_from now levels merged column)) row rest

pub all_after : (old new : List (List ℕ)) (levels : ℕ) (roots : List ℕ) → IsLonger old new → All (IsThere old levels) roots → All (IsThere new levels) roots
all_after old new levels roots l a = λ k d h. there_after old new levels (get_or roots k d) l (a k d h)

-- cells over rows that agree in a column
pub with_cells_at : (row other : Row) (cells : List Cell) (column : ℕ) → row column ≡ other column → with_cells row cells column ≡ with_cells other cells column
unfolding with_cells
with_cells_at row other [] column e = e
with_cells_at row other (c ∷ cs) column e =
    with_cells_at (with_number row c.column c.number) (with_number other c.column c.number) cs column
    (ap (λ o. cond (nat_eq column c.column) (Some c.number) o) e)

-- a cell that was written, and the others over it
pub written_row : (old new : List (List ℕ)) (levels root written column : ℕ) (cell : Cell) (rest : List Cell) → column < 2 ^ (4 * levels)
    → cell.column < 2 ^ (4 * levels)
    → found_from new levels written column ≡ cond (agree levels column cell.column) (cell.number + 1) (found_from old levels root column)
    → with_cells (tree_row new levels written) rest column ≡ with_cells (tree_row old levels root) (cell ∷ rest) column
unfolding with_cells
written_row old new levels root written column cell rest small less e =
    with_cells_at (tree_row new levels written) (with_number (tree_row old levels root) cell.column cell.number) rest column
    (ap number_of (e ∙ ap (λ t. cond t (cell.number + 1) (found_from old levels root column)) (agree_tells levels column cell.column small less))
    ∙ by (nat_eq column cell.column))
  where
    by : (t : Bool) → number_of (cond t (cell.number + 1) (found_from old levels root column)) ≡ cond t (Some cell.number)
        (number_of (found_from old levels root column))
    by true = let same : cell.number + 1 ≡ suc cell.number = omega arith in ap number_of same
    by false = refl

-- what is left of a list, at its first
pub more_rows : (table : List (List (Option ℕ))) (rows : List ℕ) (i column : ℕ) (a : Option ℕ) → i < length rows
    → or_number a (or_number (row_at table (get_or rows i 0) column) (first_of table (drop (i + 1) rows) column)) ≡ or_number a
    (first_of table (drop i rows) column)
more_rows table rows i column a h =
    let next : i + 1 ≡ suc i = omega arith in
    ap (λ j. or_number a (first_of table (get_or rows i 0 ∷ drop j rows) column)) next
    ∙ ap (λ xs. or_number a (first_of table xs column)) (sym (drop-cons rows i 0 h))

pub more_cells : (row : Row) (cells : List Cell) (i column : ℕ) (d : Cell) → i < length cells
    → with_cells row (get_or cells i d ∷ drop (i + 1) cells) column ≡ with_cells row (drop i cells) column
more_cells row cells i column d h =
    let next : i + 1 ≡ suc i = omega arith in
    ap (λ j. with_cells row (get_or cells i d ∷ drop j cells) column) next ∙ ap (λ xs. with_cells row xs column) (sym (drop-cons cells i d h))

pub no_cells : (row : Row) (cells : List Cell) (i column : ℕ) → length cells ≤ i → with_cells row (drop i cells) column ≡ row column
unfolding with_cells
no_cells row cells i column h = ap (λ xs. with_cells row xs column) (drop_of_length-le cells h)

pub no_rows : (table : List (List (Option ℕ))) (rows : List ℕ) (i column : ℕ) (a : Option ℕ) → length rows ≤ i
    → or_number a (first_of table (drop i rows) column) ≡ a
no_rows table rows i column a h = ap (λ xs. or_number a (first_of table xs column)) (drop_of_length-le rows h) ∙ by a
  where
    by : (o : Option ℕ) → or_number o None ≡ o
    by (Some n) = refl
    by None = refl
