-- The method that a class has in a selector's column is the one that is selected.
use Rattle.std.proofs.Common.{◌≡◌, ℕ, zero, suc, ◌<◌, List, [], ◌∷◌, Option, Some, None, Bool, true, false, cond, length, nat_eq, map, refl}
use Rattle.std.proofs.Common.{sym, ◌∙◌, ap, subst, arith}
use Rattle.std.specs.Prelude.{option_to_list}
use Rattle.std.specs.List.{All}
use Rattle.jm_program.specs.declared.class.ClassParts.{ClassParts}
use Rattle.jm_program.specs.declared.class.Method.{Method}
use Rattle.jm_program.specs.declared.descriptor.MethodDescriptor.{MethodDescriptor}
use Rattle.jm_world.specs.Classes.{FoundMethod, class_named, method_in, height}
use Rattle.jm_world.specs.Hierarchy.{up_from, chain}
use Rattle.jm_world.specs.Resolution.{instance_in, instance_along, select}
use Rattle.jm_tables.specs.declared.table.Cell.{Cell}
use Rattle.jm_tables.specs.Tables.{Row, empty_row, or_number, with_number, with_cells}
use Rattle.jm_tables.specs.declared.inheritance.Declared.{Declared}
use Rattle.jm_tables.specs.Numbering.{name_of}
use Rattle.jm_tables.specs.Inheriting.{first_above, inherited}
use Rattle.jm_tables.specs.MethodTables.{IsNumberOf, found_in, AreMethods}
use Rattle.jm_tables.proofs.PlacingLaws.{inherited_one}
use Rattle.jm_tables.proofs.HierarchyLaws.{class_there}

-- cells over a row: theirs, and else the row's
over_row : (low high row : Row) (cells : List Cell) (k : ℕ) → low k ≡ or_number (high k) (row k)
    → with_cells low cells k ≡ or_number (with_cells high cells k) (row k)
unfolding with_cells
over_row low high row [] k e = e
over_row low high row (c ∷ cs) k e = over_row (with_number low c.column c.number) (with_number high c.column c.number) row cs k (by (nat_eq k c.column))
  where
    by : (t : Bool) → cond t (Some c.number) (low k) ≡ or_number (cond t (Some c.number) (high k)) (row k)
    by true = refl
    by false = e

cells_over : (row : Row) (cells : List Cell) (k : ℕ) → with_cells row cells k ≡ or_number (with_cells empty_row cells k) (row k)
cells_over row cells k = over_row row empty_row row cells k refl

-- the first along the classes, by its number
abbrev along : ClassParts → Option Method → Option FoundMethod → Option FoundMethod
along c own rest = elim own [ Some m ↦ Some (record { class = c; method = m }) | None ↦ rest ]

number_along : (methods : List FoundMethod) (c : ClassParts) (a b : Option ℕ) (own : Option Method) (rest : Option FoundMethod)
    → IsNumberOf methods a (found_in c own) → IsNumberOf methods b rest → IsNumberOf methods (or_number a b) (along c own rest)
number_along methods c None b None rest h i = i
number_along methods c (Some n) b (Some m) rest h i = h
number_along methods c None b (Some m) rest h i = absurd h
number_along methods c (Some n) b None rest h i = absurd h

-- the superclass alone, or none
one_above : (row : Row) (k : ℕ) → or_number (row k) None ≡ row k
one_above row k = by (row k)
  where
    by : (o : Option ℕ) → or_number o None ≡ o
    by (Some n) = refl
    by None = refl

module _ (program : List ClassParts) (names : List (List ℕ)) (methods : List FoundMethod) (selector : ℕ) (name : List ℕ) (t : MethodDescriptor)
    (classes : List Declared)
    (are : AreMethods program names methods selector name t classes) where
  abbrev Selects : ℕ → ℕ → Type 0
  Selects n a = IsNumberOf methods (inherited n classes a selector) (instance_along false (up_from n program (name_of names a)) name t)

  -- of the superclass
  superclass_selects : (n : ℕ) → ((a : ℕ) → a < length names → Selects n a) → (as_ : List ℕ) (s : Option (List ℕ)) → All (λ a. a < length names) as_
      → map (name_of names) as_ ≡ option_to_list s
      → IsNumberOf methods (first_above (inherited n classes) as_ selector)
      (elim s as (λ _. Option FoundMethod) [ None ↦ None | Some x ↦ instance_along false (up_from n program x) name t ])
  superclass_selects n h [] None within e = tt
  superclass_selects n h [] (Some x) within e = cc
  superclass_selects n h (a ∷ as_) None within e = cc
  superclass_selects n h (a ∷ []) (Some x) within e =
      let is : name_of names a ≡ x = (let same : name_of names a ∷ [] ≡ x ∷ [] = e in cc) in
      subst (λ y. IsNumberOf methods (first_above (inherited n classes) (a ∷ []) selector) (instance_along false (up_from n program y) name t)) is
      (subst (λ o. IsNumberOf methods o (instance_along false (up_from n program (name_of names a)) name t))
      (sym (one_above (inherited n classes a) selector)) (h a (within 0 0 (omega arith))))
  superclass_selects n h (a ∷ b ∷ as_) (Some x) within e = cc

  along_up : (n : ℕ) (a : ℕ) (c : ClassParts) → class_named program (name_of names a) ≡ Some c
      → instance_along false (up_from (suc n) program (name_of names a)) name t
      ≡ along c (instance_in false (method_in c.methods name t))
      (elim c.superclass as (λ _. Option FoundMethod) [ None ↦ None | Some x ↦ instance_along false (up_from n program x) name t ])
  along_up n a c e =
      ap (λ o. instance_along false (elim o as (λ _. List ClassParts)
      [ None ↦ [] | Some c ↦ elim c.superclass as (λ _. List ClassParts) [ None ↦ c ∷ [] | Some s ↦ c ∷ up_from n program s ] ]) name t) e
      ∙ by c.superclass
    where
      by : (s : Option (List ℕ)) → instance_along false (elim s as (λ _. List ClassParts) [ None ↦ c ∷ [] | Some x ↦ c ∷ up_from n program x ]) name t
          ≡ along c (instance_in false (method_in c.methods name t))
          (elim s as (λ _. Option FoundMethod) [ None ↦ None | Some x ↦ instance_along false (up_from n program x) name t ])
      by None = refl
      by (Some x) = refl

  class_selects : (n a : ℕ) → a < length names → Selects n a
  unfolding inherited
  class_selects zero a l = tt
  class_selects (suc n) a l =
      let there = class_there classes a (omega (arith, are.many, l)) in
      let d = are.each a there.0 there.1 in
      let rest = superclass_selects n (λ k less. class_selects n k less) there.0.above.items d.parts.superclass d.within d.above in
      let number : inherited (suc n) classes a selector ≡ or_number (with_cells empty_row there.0.own.items selector)
      (first_above (inherited n classes) there.0.above.items selector) =
      (ap (λ (row : Row). row selector) (inherited_one n classes a there.0 there.1)
      ∙ cells_over (first_above (inherited n classes) there.0.above.items) there.0.own.items selector) in
      subst (λ o. IsNumberOf methods o (instance_along false (up_from (suc n) program (name_of names a)) name t)) (sym number)
      (subst (IsNumberOf methods (or_number (with_cells empty_row there.0.own.items selector)
      (first_above (inherited n classes) there.0.above.items selector))) (sym (along_up n a d.parts d.named))
      (number_along methods d.parts (with_cells empty_row there.0.own.items selector) (first_above (inherited n classes) there.0.above.items selector)
      (instance_in false (method_in d.parts.methods name t)) _ d.own rest))

  pub selected : (a : ℕ) → a < length names → IsNumberOf methods (inherited (length classes) classes a selector) (select program (name_of names a) name t)
  unfolding select chain
  selected a l =
      subst (λ n. IsNumberOf methods (inherited n classes a selector) (instance_along false (up_from (height program) program (name_of names a)) name t))
      (sym (are.many ∙ are.named.many)) (class_selects (height program) a l)
