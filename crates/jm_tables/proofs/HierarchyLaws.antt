-- A class has a cell for each class above it.
use Rattle.std.proofs.Common.{◌≡◌, ℕ, zero, suc, ◌<◌, List, [], ◌∷◌, Option, Some, None, Bool, true, false, cond, length, nat_eq, map}
use Rattle.std.proofs.Common.{refl, sym, ◌∙◌, ap, arith, slice_get, eq-eqb, eqb-true}
use Rattle.std.specs.Prelude.{is_some}
use Rattle.std.specs.List.{All}
use Rattle.jm_program.specs.Names.{same_text}
use Rattle.jm_program.specs.declared.class.ClassParts.{ClassParts}
use Rattle.jm_world.specs.Classes.{height}
use Rattle.jm_world.specs.Hierarchy.{holds_of_any, is_below, is_subclass}
use Rattle.jm_tables.specs.declared.table.Cell.{Cell}
use Rattle.jm_tables.specs.Tables.{Row, or_number, with_cells}
use Rattle.jm_tables.specs.declared.inheritance.Declared.{Declared}
use Rattle.jm_tables.specs.Numbering.{name_of}
use Rattle.jm_tables.specs.Inheriting.{first_above, inherited}
use Rattle.jm_tables.specs.Hierarchies.{AreHeirs, own_cell}
use Rattle.jm_tables.proofs.PlacingLaws.{inherited_one}

-- the class of a number that is there
pub class_there : (classes : List Declared) (n : ℕ) → n < length classes → (d : Declared) × (slice_get classes n ≡ Some d)
class_there [] n h = absurd (omega (arith, h))
class_there (d ∷ ds) zero h = (d, refl)
class_there (d ∷ ds) (suc n) h = class_there ds n (omega (arith, h))

some_or : (a b : Option ℕ) → is_some (or_number a b) ≡ (elim (is_some a) as (λ _. Bool) [ true ↦ true | false ↦ is_some b ])
some_or (Some n) b = refl
some_or None b = refl

own_cell_at : (row : Row) (class k : ℕ) → with_cells row (own_cell class ∷ []) k ≡ cond (nat_eq k class) (Some 0) (row k)
unfolding with_cells
own_cell_at row class k = refl

eqb_turned : (a b : ℕ) → nat_eq a b ≡ nat_eq b a
eqb_turned a b = by (nat_eq a b) (nat_eq b a) refl refl
  where
    by : (s t : Bool) → nat_eq a b ≡ s → nat_eq b a ≡ t → s ≡ t
    by true true e f = refl
    by false false e f = refl
    by true false e f = let back = eq-eqb b a (sym (eqb-true a b e)) in cc
    by false true e f = let back = eq-eqb a b (sym (eqb-true b a f)) in cc

-- of the classes right above
above_found : (names : List (List ℕ)) (program : List ClassParts) (row : ℕ → Row) (n b : ℕ)
    → ((a : ℕ) → a < length names → is_some (row a b) ≡ is_below n program (name_of names a) (name_of names b))
    → (as_ : List ℕ) → All (λ a. a < length names) as_ → is_some (first_above row as_ b) ≡ holds_of_any
    (λ parent. is_below n program parent (name_of names b)) (map (name_of names) as_)
above_found names program row n b h [] within = refl
above_found names program row n b h (a ∷ as_) within =
    some_or (row a b) (first_above row as_ b)
    ∙ ap (λ t. elim t as (λ _. Bool) [ true ↦ true | false ↦ is_some (first_above row as_ b) ]) (h a (within 0 0 (omega arith)))
    ∙ ap (λ t. elim (is_below n program (name_of names a) (name_of names b)) as (λ _. Bool) [ true ↦ true | false ↦ t ])
    (above_found names program row n b h as_ (λ k d less. within (suc k) d (omega (arith, less))))

pub below_found : (program : List ClassParts) (names : List (List ℕ)) (classes : List Declared) → AreHeirs program names classes → (n a b : ℕ)
    → a < length names → b < length names
    → is_some (inherited n classes a b) ≡ is_below n program (name_of names a) (name_of names b)
unfolding inherited
below_found program names classes heirs zero a b la lb = refl
below_found program names classes heirs (suc n) a b la lb =
    let there = class_there classes a (omega (arith, heirs.many, la)) in
    let heir = heirs.each a there.0 there.1 in
    let test : nat_eq b a ≡ same_text (name_of names a) (name_of names b) = eqb_turned b a ∙ sym (heirs.named.apart a b la lb) in
    let up = above_found names program (inherited n classes) n b (λ k less. below_found program names classes heirs n k b less lb) there.0.above.items
    heir.within in
    ap (λ (row : Row). is_some (row b)) (inherited_one n classes a there.0 there.1)
    ∙ ap (λ (cells : List Cell). is_some (with_cells (first_above (inherited n classes) there.0.above.items) cells b)) heir.own
    ∙ ap is_some (own_cell_at (first_above (inherited n classes) there.0.above.items) a b)
    ∙ by (nat_eq b a) (first_above (inherited n classes) there.0.above.items b)
    ∙ ap (λ t. elim t as (λ _. Bool) [ true ↦ true | false ↦ is_some (first_above (inherited n classes) there.0.above.items b) ]) test
    ∙ ap (λ t. elim (same_text (name_of names a) (name_of names b)) as (λ _. Bool) [ true ↦ true | false ↦ t ])
    (up ∙ ap (λ ps. holds_of_any (λ parent. is_below n program parent (name_of names b)) ps) heir.above)
  where
    by : (t : Bool) (o : Option ℕ) → is_some (cond t (Some 0) o) ≡ (elim t as (λ _. Bool) [ true ↦ true | false ↦ is_some o ])
    by true o = refl
    by false o = refl

pub subclass_found : (program : List ClassParts) (names : List (List ℕ)) (classes : List Declared) → AreHeirs program names classes → (a b : ℕ)
    → a < length names → b < length names
    → is_some (inherited (length classes) classes a b) ≡ is_subclass program (name_of names a) (name_of names b)
unfolding is_subclass
subclass_found program names classes heirs a b la lb =
    ap (λ n. is_some (inherited n classes a b)) (heirs.many ∙ heirs.named.many) ∙ below_found program names classes heirs (height program) a b la lb
