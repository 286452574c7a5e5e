-- Rows of classes as one more is added.
use Rattle.std.proofs.Common.{◌≡◌, ◌≢◌, ℕ, zero, suc, ◌+◌, ◌-◌, ◌^◌, ◌<◌, ◌≤◌, List, [], ◌∷◌, ◌++◌, Option, Some, None, Bool, nat_lt, true, false, length}
use Rattle.std.proofs.Common.{nat_eq}
use Rattle.std.proofs.Common.{get_or, set, take, drop, append-nil, replicate, map, IfSome, refl, sym, ◌∙◌, ap, subst, arith, slice_get, eq-eqb}
use Rattle.std.proofs.Common.{eqb-true, length-append}
use Rattle.std.proofs.lemmas.List.{get_or_append_left, take_all}
use Rattle.std.proofs.Math.ListN.{drop_of_length-le}
use Rattle.std.specs.Prelude.{is_some}
use Rattle.std.specs.List.{All}
use Rattle.std.proofs.lemmas.Option.{slice_get-get_or, get_or_from_slice_get}
use Rattle.std.proofs.Math.Seq.{get_or-append_seam}
use Rattle.jm_tables.specs.Tables.{Row, TableView, by_column, or_number, row_at, first_of, with_cells, with_row}
use Rattle.jm_tables.proofs.SharedRowLaws.{by_column_at, with_cells_at}
use Rattle.jm_tables.specs.declared.inheritance.Declared.{Declared}
use Rattle.jm_tables.specs.Inheriting.{StandsBefore, first_above, inherited}
use Rattle.jm_tables.specs.Placing.{IsPlaced, HasRow, ArePlaced, IsRowOf, AreRows}

pub placed_push : (places cs rs : List ℕ) (c r : ℕ) → ArePlaced places cs rs → IsPlaced places c r → ArePlaced places (cs ++ c ∷ []) (rs ++ r ∷ [])
placed_push places [] [] c r a p = (p, tt)
placed_push places (x ∷ xs) (y ∷ ys) c r a p = (a.0, placed_push places xs ys c r a.1 p)
placed_push places [] (y ∷ ys) c r a p = absurd a
placed_push places (x ∷ xs) [] c r a p = absurd a

got_set : (xs : List ℕ) (i x : ℕ) → i < length xs → slice_get (set xs i x) i ≡ Some x
got_set [] i x h = absurd (omega (arith, h))
got_set (y ∷ ys) zero x h = refl
got_set (y ∷ ys) (suc i) x h = got_set ys i x (omega (arith, h))

got_set_other : (xs : List ℕ) (i x j : ℕ) → j ≢ i → slice_get (set xs i x) j ≡ slice_get xs j
got_set_other [] i x j h = refl
got_set_other (y ∷ ys) zero x zero h = absurd (h refl)
got_set_other (y ∷ ys) zero x (suc j) h = refl
got_set_other (y ∷ ys) (suc i) x zero h = refl
got_set_other (y ∷ ys) (suc i) x (suc j) h = got_set_other ys i x j (λ e. h (ap suc e))

-- what the classes right above have
above_rows : (classes : List Declared) (places : List ℕ) (table : TableView) (n column : ℕ) → AreRows classes places table → length table.rows ≤ n
    → column < table.columns
    → (cs rs : List ℕ) → ArePlaced places cs rs → first_of table.rows rs column ≡ first_above (inherited n classes) cs column
unfolding AreRows
above_rows classes places table n column rows l small [] [] a = refl
above_rows classes places table n column rows l small (c ∷ cs) (r ∷ rs) a =
    let row = rows c r a.0 in
    ap (λ o. or_number o (first_of table.rows rs column)) (row.1 n column (omega (arith, row.0, l)) small)
    ∙ ap (or_number (inherited n classes c column)) (above_rows classes places table n column rows l small cs rs a.1)
above_rows classes places table n column rows l small [] (r ∷ rs) a = absurd a
above_rows classes places table n column rows l small (c ∷ cs) [] a = absurd a

-- a class's own row
pub inherited_one : (n : ℕ) (classes : List Declared) (class : ℕ) (d : Declared) → slice_get classes class ≡ Some d
    → inherited (suc n) classes class ≡ with_cells (first_above (inherited n classes) d.above.items) d.own.items
unfolding inherited
inherited_one n classes class d e = ap (λ o. elim o as (λ _. Row)
    [ None ↦ (λ column. None) | Some d ↦ with_cells (first_above (inherited n classes) d.above.items) d.own.items ]) e

module _ (classes : List Declared) (places : List ℕ) (table : TableView) (class : ℕ) (d : Declared) (rs : List ℕ) (is : slice_get classes class ≡ Some d)
    (rows : AreRows classes places table)
    (placed : ArePlaced places d.above.items rs) where
  abbrev new_row : Row
  new_row = with_cells (first_of table.rows rs) d.own.items

  own_row : (n column : ℕ) → length table.rows < n → column < table.columns → new_row column ≡ inherited n classes class column
  own_row zero column l small = absurd (omega (arith, l))
  own_row (suc n) column l small =
      with_cells_at (first_of table.rows rs) (first_above (inherited n classes) d.above.items) d.own.items column
      (above_rows classes places table n column rows (omega (arith, l)) small d.above.items rs placed)
      ∙ ap (λ (row : Row). row column) (sym (inherited_one n classes class d is))

  -- and those of the others, with it
  pub rows_more : (row : ℕ) → row ≡ length table.rows → class < length places → (new : TableView)
      → new ≡ with_row table (with_cells (first_of table.rows rs) d.own.items) → AreRows classes (set places class row) new
  unfolding AreRows
  rows_more row at within new e = λ c r p. by c r p (nat_eq c class) refl
    where
      long : length new.rows ≡ length table.rows + 1
      long = ap (λ (t : TableView). length t.rows) e ∙ length-append table.rows (by_column table.columns new_row ∷ [])

      columns : new.columns ≡ table.columns
      columns = ap (λ (t : TableView). t.columns) e

      earlier : (r column : ℕ) → r < length table.rows → row_at new.rows r column ≡ row_at table.rows r column
      earlier r column less = ap (λ (t : TableView). row_at t.rows r column) e
          ∙ ap (λ xs. get_or xs column None) (get_or_append_left table.rows (by_column table.columns new_row ∷ []) [] r less)

      last : (column : ℕ) → column < table.columns → row_at new.rows (length table.rows) column ≡ new_row column
      last column small = ap (λ (t : TableView). row_at t.rows (length table.rows) column) e
          ∙ ap (λ xs. get_or xs column None) (get_or-append_seam table.rows (by_column table.columns new_row) [] [])
          ∙ by_column_at table.columns new_row column small

      some_same : (a b : ℕ) → Some a ≡ Some b → a ≡ b
      some_same a b h = cc

      by : (c r : ℕ) → IsPlaced (set places class row) c r → (t : Bool) → nat_eq c class ≡ t → IsRowOf new.columns classes new c r
      by c r p true is_class =
          let same : c ≡ class = eqb-true c class is_class in
          let here : row ≡ r = some_same row r (sym (got_set places class row within) ∙ ap (slice_get (set places class row)) (sym same) ∙ p.0) in
          let is_last : r ≡ length table.rows = sym here ∙ at in (
            omega (arith, long, is_last),
            λ n column less small.
                let within_table : column < table.columns = subst (λ k. column < k) columns small in
                ap (λ k. row_at new.rows k column) is_last ∙ last column within_table ∙ own_row n column (subst (λ k. k < n) is_last less) within_table
                ∙ ap (λ k. inherited n classes k column) (sym same),
          )
      by c r p false is_other =
          let ne : c ≢ class = λ same. let t = eq-eqb c class same in cc in
          let old = rows c r (sym (got_set_other places class row c ne) ∙ p.0, p.1) in
          (omega (arith, long, old.0), λ n column less small. earlier r column old.0 ∙ old.1 n column less (subst (λ k. column < k) columns small))

-- a slice that was written through a Vec
pub written_back : (xs ys : List ℕ) (n : ℕ) → length xs ≡ n → length ys ≡ n → take n (xs ++ drop (length xs) ys) ≡ xs
written_back xs ys n a b =
    ap (λ zs. take n (xs ++ zs)) (drop_of_length-le ys (omega (arith, a, b))) ∙ ap (take n) (append-nil xs) ∙ take_all n xs (omega (arith, a))

-- no class has a row yet
pub none_placed : (classes : List Declared) (places : List ℕ) (table : TableView) → ((k r : ℕ) → slice_get places k ≡ Some r → r ≡ 2 ^ 32 - 1)
    → AreRows classes places table
unfolding AreRows
none_placed classes places table h = λ c r p. let none : r ≡ 2 ^ 32 - 1 = h c r p.0 in absurd (omega (arith, none, p.1))

pub all_none : (n k r : ℕ) → slice_get (replicate n (2 ^ 32 - 1)) k ≡ Some r → r ≡ 2 ^ 32 - 1
all_none zero k r e = cc
all_none (suc n) zero r e = same e
  where
    same : {a b : ℕ} → Some a ≡ Some b → b ≡ a
    same h = cc
all_none (suc n) (suc k) r e = all_none n k r e

-- what a look-up found
pub got : {A : Type 0} → (xs : List A) (i : ℕ) (x : A) → i < length xs → ((d : A) → x ≡ get_or xs i d) → slice_get xs i ≡ Some x
got xs i x h f = slice_get-get_or xs i x h ∙ ap Some (sym (f x))

-- the row of each class, where all have one
pub whole_rows : (classes : List Declared) (places : List ℕ) (table : TableView) (class n column : ℕ) → AreRows classes places table
    → ((k : ℕ) → k < length places → get_or places k 0 < 2 ^ 32 - 1) → class < length places
    → length table.rows ≤ n → column < table.columns → row_at (map (λ place. get_or table.rows place []) places) class column ≡ inherited n classes class column
unfolding AreRows
whole_rows classes places table class n column rows all within l small =
    let row = rows class (get_or places class 0) (slice_get-get_or places class 0 within, all class within) in
    ap (λ xs. get_or xs column None) (mapped places class within) ∙ row.1 n column (omega (arith, row.0, l)) small
  where
    mapped : (ps : List ℕ) (k : ℕ) → k < length ps → get_or (map (λ place. get_or table.rows place []) ps) k [] ≡ get_or table.rows (get_or ps k 0) []
    mapped [] k h = absurd (omega (arith, h))
    mapped (p ∷ ps) zero h = refl
    mapped (p ∷ ps) (suc k) h = mapped ps k (omega (arith, h))

pub some_weaker : {A : Type 0} → (o : Option A) (P Q : A → Type 0) → ((x : A) → P x → Q x) → IfSome o P → IfSome o Q
some_weaker None P Q h a = tt
some_weaker (Some x) P Q h a = h x a

-- a class keeps a row as another one is placed
pub row_kept : (places : List ℕ) (class row other : ℕ) → class < length places → row < 2 ^ 32 - 1 → HasRow places other → HasRow (set places class row) other
row_kept places class row other within small h = by (nat_eq other class) refl
  where
    by : (t : Bool) → nat_eq other class ≡ t → HasRow (set places class row) other
    by true e = (row, (ap (slice_get (set places class row)) (eqb-true other class e) ∙ got_set places class row within, small))
    by false e = let ne : other ≢ class = λ same. let t = eq-eqb other class same in cc in (h.0, (got_set_other places class row other ne ∙ h.1.0, h.1.1))

-- the classes that stand before a place, and the one at it
pub row_more : (order places new : List ℕ) (i : ℕ) → ((class : ℕ) → StandsBefore order i class → HasRow places class)
    → ((class : ℕ) → HasRow places class → HasRow new class) → HasRow new (get_or order i 0)
    → (class : ℕ) → StandsBefore order (i + 1) class → HasRow new class
row_more order places new i before kept here class s = by (nat_lt s.0 i) refl
  where
    by : (t : Bool) → nat_lt s.0 i ≡ t → HasRow new class
    by true e = let less : s.0 < i = grind (arith, e) in kept class (before class (s.0, less, s.2))
    by false e =
        let at : s.0 ≡ i = (let less = s.1 in grind (arith, e, less)) in
        subst (HasRow new) (ap (λ k. get_or order k 0) (sym at) ∙ get_or_from_slice_get order s.0 class 0 s.2) here

pub row_number : (places : List ℕ) (class : ℕ) → HasRow places class → get_or places class 0 < 2 ^ 32 - 1
row_number places class h = subst (λ r. r < 2 ^ 32 - 1) (sym (get_or_from_slice_get places class h.0 0 h.1.0)) h.1.1

pub all_rows : (order places cs : List ℕ) (i : ℕ) → ((class : ℕ) → StandsBefore order i class → HasRow places class) → All (StandsBefore order i) cs
    → All (HasRow places) cs
all_rows order places cs i h a = λ k d less. h (get_or cs k d) (a k d less)

pub not_none : {A : Type 0} → (o : Option A) → o ≡ None → is_some o ≡ true → false ≡ true
not_none o e s = sym (ap is_some e) ∙ s

pub same_some : {A : Type 0} → (x y : A) → Some x ≡ Some y → x ≡ y
same_some x y e = cc
