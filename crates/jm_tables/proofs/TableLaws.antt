-- A table whose nodes are more: its rows are the same.
use Rattle.std.proofs.Common.{◌≡◌, ℕ, zero, suc, ◌<◌, ◌≤◌, List, [], ◌∷◌, ◌++◌, Option, None, map, Result, Ok, Err, OnErr, refl, ◌∙◌, ap, arith}
use Rattle.std.specs.List.{All}
use Rattle.std.proofs.lemmas.List.{map-append}
use Rattle.std.proofs.lemmas.List.Elements.{All-push}
use Rattle.jm_tables.specs.Tables.{Row, TableView, row_at, with_row}
use Rattle.jm_tables.specs.Nodes.{found_from, IsThere, IsLonger, IsTable, number_of, tree_row, row_from}
use Rattle.jm_tables.proofs.NodeLaws.{found_after, first_after}
use Rattle.jm_tables.proofs.SharedRowLaws.{by_column_same, by_column_past, all_after}

row_same : (old new : List (List ℕ)) (columns levels root : ℕ) → IsLonger old new → IsThere old levels root
    → row_from new columns levels root ≡ row_from old columns levels root
row_same old new columns levels root l h = by_column_same columns (tree_row new levels root) (tree_row old levels root)
    (λ k small. ap number_of (found_after old new levels root k l h))

pub rows_same : (old new : List (List ℕ)) (columns levels : ℕ) (roots : List ℕ) → IsLonger old new → All (IsThere old levels) roots
    → map (row_from new columns levels) roots ≡ map (row_from old columns levels) roots
rows_same old new columns levels [] l a = refl
rows_same old new columns levels (r ∷ rs) l a =
    let rest : All (IsThere old levels) rs = λ k d h. a (suc k) d (omega (arith, h)) in
    ap (λ x. x ∷ map (row_from new columns levels) rs) (row_same old new columns levels r l (a 0 0 (omega arith)))
    ∙ ap (λ xs. row_from old columns levels r ∷ xs) (rows_same old new columns levels rs l rest)

pub table_after : (columns levels : ℕ) (old new : List (List ℕ)) (roots : List ℕ) → IsLonger old new → IsTable columns levels old roots
    → IsTable columns levels new roots
table_after columns levels old new roots l t = record {
  few = t.few;
  serve = t.serve;
  empty = first_after old new l t.empty;
  there = all_after old new levels
      roots l t.there;
}

pub on_err : {T E : Type 0} (r : Result T E) (P : Type 0) → P → OnErr r P
on_err (Ok x) P p = tt
on_err (Err e) P p = p

-- a column that is not there, and what is found of one that is
pub cell_past : (nodes : List (List ℕ)) (columns levels : ℕ) (roots : List ℕ) (row column : ℕ) → columns ≤ column
    → row_at (map (row_from nodes columns levels) roots) row column ≡ None
cell_past nodes columns levels [] row column h = refl
cell_past nodes columns levels (r ∷ rs) zero column h = by_column_past columns (tree_row nodes levels r) column h
cell_past nodes columns levels (r ∷ rs) (suc row) column h = cell_past nodes columns levels rs row column h

-- the table of a root more, and of more nodes
pub table_more : (columns levels : ℕ) (nodes : List (List ℕ)) (roots : List ℕ) (root : ℕ) → IsThere nodes levels root → IsTable columns levels nodes roots
    → IsTable columns levels nodes (roots ++ root ∷ [])
table_more columns levels nodes roots root h t = record {
  few = t.few;
  serve = t.serve;
  empty = t.empty;
  there = All-push (IsThere nodes levels) roots root
      t.there h;
}

abbrev pub view_of : List (List ℕ) → ℕ → ℕ → List ℕ → TableView
view_of nodes columns levels roots = record { columns = columns; rows = map (row_from nodes columns levels) roots }

pub view_after : (old new : List (List ℕ)) (columns levels : ℕ) (roots : List ℕ) → IsLonger old new → All (IsThere old levels) roots
    → view_of new columns levels roots ≡ view_of old columns levels roots
view_after old new columns levels roots l a = ap (λ (rows : List (List (Option ℕ))). let t : TableView = record { columns = columns; rows = rows } in t)
    (rows_same old new columns levels roots l a)

pub view_more : (old new : List (List ℕ)) (columns levels : ℕ) (roots : List ℕ) (root : ℕ) (row : Row) → IsLonger old new → All (IsThere old levels) roots
    → ((k : ℕ) → k < columns → number_of (found_from new levels root k) ≡ row k)
    → view_of new columns levels (roots ++ root ∷ []) ≡ with_row (view_of old columns levels roots) row
view_more old new columns levels roots root row l a h =
    ap (λ (rows : List (List (Option ℕ))). let t : TableView = record { columns = columns; rows = rows } in t)
    (map-append (row_from new columns levels) roots (root ∷ [])
    ∙ ap (λ xs. xs ++ row_from new columns levels root ∷ []) (rows_same old new columns levels roots l a)
    ∙ ap (λ x. map (row_from old columns levels) roots ++ x ∷ []) (by_column_same columns (tree_row new levels root) row h))
