-- The kinds of the fields of classes as one more is found.
use Rattle.std.proofs.Common.{◌≡◌, ◌≢◌, ℕ, zero, suc, ◌+◌, ◌<◌, ◌≤◌, List, [], ◌∷◌, ◌++◌, Option, Some, None, Bool, nat_eq, true, false}
use Rattle.std.proofs.Common.{length, replicate, map, not}
use Rattle.std.proofs.Common.{get_or, set, refl, sym, ◌∙◌, ap, subst, arith, slice_get, eq-eqb, eqb-true, get_or-set_same, get_or-set_other, Vec, Global}
use Rattle.std.specs.Prelude.{IsSome, IfSome}
use Rattle.std.specs.List.{filter}
use Rattle.std.proofs.lemmas.List.{map-append}
use Rattle.std.proofs.lemmas.Option.{slice_get_within}
use Rattle.jm_program.specs.Flags.{is_static}
use Rattle.jm_program.specs.declared.class.ClassParts.{ClassParts}
use Rattle.jm_program.specs.declared.class.Field.{Field}
use Rattle.jm_program.specs.declared.instruction.operation.OperandType.{OperandType}
use Rattle.jm_world.specs.Objects.{FieldName, field_names, own_instance_fields}
use Rattle.jm_world.specs.Types.{operand_of}
use Rattle.jm_tables.specs.declared.extent.DeclaredFields.{DeclaredFields}
use Rattle.jm_tables.specs.declared.field_kinds.KindRow.{KindRow}
use Rattle.jm_tables.specs.Layouts.{AreFields}
use Rattle.jm_tables.specs.FieldKinds.{AreKept, AreKinds, HasKinds, KindsView, head_of, kinds_down, own_kinds, row_above}
use Rattle.jm_tables.proofs.KindRowLaws.{head_is, no_kinds}
use Rattle.jm_tables.proofs.LayoutLaws.{instance_are, rest, there, up, up_one}
use Rattle.jm_tables.proofs.PlaceLaws.{fields_down}

-- the kinds of a superclass's fields
abbrev pub kinds_above : ℕ → List DeclaredFields → Option ℕ → List OperandType
kinds_above n classes None = []
kinds_above n classes (Some s) = kinds_down n classes s

-- each class with a row has its kinds, over at least so many classes up
unfoldable pub AreKindRows : ℕ → List DeclaredFields → List (Vec OperandType Global) → List (Option KindRow) → Type 0
AreKindRows i classes lists rows = (class : ℕ) (row : KindRow) (n : ℕ) → get_or rows class None ≡ Some row → i ≤ n
    → HasKinds lists row (kinds_down n classes class)

pub none_known : (classes : List DeclaredFields) (lists : List (Vec OperandType Global)) (count : ℕ) → AreKindRows 0 classes lists (replicate count None)
unfolding AreKindRows
none_known classes lists count = λ class row n is l. absurd (by count class row is)
  where
    by : (count class : ℕ) (row : KindRow) → get_or (replicate count None) class None ≡ Some row → ⊥
    by zero class row is = cc
    by (suc count) zero row is = cc
    by (suc count) (suc class) row is = by count class row is

pub rows_later : (i n : ℕ) (classes : List DeclaredFields) (lists : List (Vec OperandType Global)) (rows : List (Option KindRow)) → i ≤ n
    → AreKindRows i classes lists rows → AreKindRows n classes lists rows
unfolding AreKindRows
rows_later i n classes lists rows less known = λ class row m is l. known class row m is (omega (arith, less, l))

-- the kinds of a class
pub kinds_one : (n : ℕ) (classes : List DeclaredFields) (class : ℕ) (d : DeclaredFields) → slice_get classes class ≡ Some d
    → kinds_down (suc n) classes class ≡ kinds_above n classes d.superclass ++ own_kinds d.fields.now
unfolding kinds_down
kinds_one n classes class d is =
    ap (λ o. elim o as (λ _. List OperandType) [
      | None ↦ []
      | Some d ↦ elim d.superclass as (λ _. List OperandType) [ None ↦ [] | Some s ↦ kinds_down n classes s ] ++ own_kinds d.fields.now
    ]) is ∙ by d.superclass
  where
    by : (s : Option ℕ) → elim s as (λ _. List OperandType) [ None ↦ [] | Some s ↦ kinds_down n classes s ] ++ own_kinds d.fields.now
        ≡ kinds_above n classes s ++ own_kinds d.fields.now
    by None = refl
    by (Some s) = refl

-- the row of a superclass has its kinds
pub above_has : (i : ℕ) (classes : List DeclaredFields) (lists : List (Vec OperandType Global)) (rows : List (Option KindRow)) (s : Option ℕ) (above : KindRow)
    → HasKinds lists no_kinds [] → AreKindRows i classes lists rows → row_above rows s ≡ Some above → (n : ℕ) → i ≤ n
    → HasKinds lists above (kinds_above n classes s)
unfolding AreKindRows
above_has i classes lists rows None above first known is n l = let same : no_kinds ≡ above = cc in subst (λ r. HasKinds lists r []) same first
above_has i classes lists rows (Some s) above first known is n l = known s above n is l

-- what stands right above a class is known
pub above_is_known : (rows : List (Option KindRow)) (s : Option ℕ) → IfSome s (λ s. IsSome (get_or rows s None)) → row_above rows s ≡ None → ⊥
above_is_known rows None h e = cc
above_is_known rows (Some s) h e = by (get_or rows s None) h e
  where
    by : (o : Option KindRow) → IsSome o → o ≡ None → ⊥
    by None h e = cc
    by (Some x) h e = cc

-- one more row
pub rows_more : (i : ℕ) (classes : List DeclaredFields) (lists later : List (Vec OperandType Global)) (rows : List (Option KindRow)) (class : ℕ)
    (d : DeclaredFields) (row : KindRow)
    → length rows ≡ length classes → AreKindRows i classes lists rows → AreKept lists later → slice_get classes class ≡ Some d
    → ((n : ℕ) → i ≤ n → HasKinds later row (kinds_above n classes d.superclass ++ own_kinds d.fields.now))
    → AreKindRows (i + 1) classes later (set rows class (Some row))
unfolding AreKindRows
rows_more i classes lists later rows class d row long known kept is over = λ k x n at l. by k x n at l (nat_eq k class) refl
  where
    within : class < length rows
    within = omega (arith, long, slice_get_within classes class d is)

    own : (n : ℕ) → i + 1 ≤ n → HasKinds later row (kinds_down n classes class)
    own zero l = absurd (omega (arith, l))
    own (suc n) l = subst (HasKinds later row) (sym (kinds_one n classes class d is)) (over n (omega (arith, l)))

    by : (k : ℕ) (x : KindRow) (n : ℕ) → get_or (set rows class (Some row)) k None ≡ Some x → i + 1 ≤ n → (t : Bool) → nat_eq k class ≡ t
        → HasKinds later x (kinds_down n classes k)
    by k x n at l true is_class =
        let same : k ≡ class = eqb-true k class is_class in
        let here : Some row ≡ Some x = sym (get_or-set_same rows class (Some row) None within)
        ∙ ap (λ j. get_or (set rows class (Some row)) j None) (sym same) ∙ at in
        let it : row ≡ x = cc in
        subst (λ j. HasKinds later x (kinds_down n classes j)) (sym same) (subst (λ r. HasKinds later r (kinds_down n classes class)) it (own n l))
    by k x n at l false is_other =
        let ne : k ≢ class = λ same. let t = eq-eqb k class same in cc in
        kept x (kinds_down n classes k) (known k x n (sym (get_or-set_other rows class k (Some row) None ne) ∙ at) (omega (arith, l)))

module _ (program : List ClassParts) (names : List (List ℕ)) (classes : List DeclaredFields) (are : AreFields program names classes) where
  abbrev kinds_of : List FieldName → List OperandType
  kinds_of fields = map (λ f. operand_of f.type) fields

  named_kinds : (c : ClassParts) (fs : List Field) → kinds_of (field_names c fs) ≡ map (λ f. operand_of f.descriptor) fs
  named_kinds c [] = refl
  named_kinds c (f ∷ fs) = ap (λ ks. operand_of f.descriptor ∷ ks) (named_kinds c fs)

  kinds_named : (n class : ℕ) → class < length classes → kinds_down n classes class ≡ kinds_of (fields_down (up program names classes are n class))
  unfolding kinds_down
  kinds_named zero class less = refl
  kinds_named (suc n) class less =
      let d = there classes class less in
      let p = are.each class d.0 d.1 in
      kinds_one n classes class d.0 d.1
      ∙ ap (λ ks. ks ++ own_kinds d.0.fields.now) (above d.0.superclass p.within (λ s l. kinds_named n s l))
      ∙ ap (λ fs. kinds_of (fields_down (rest program names classes are n d.0.superclass)) ++ own_kinds fs) p.fields
      ∙ ap (λ ks. kinds_of (fields_down (rest program names classes are n d.0.superclass)) ++ ks)
      (sym (named_kinds p.parts (filter (λ f. not (is_static f.flags)) p.parts.fields)))
      ∙ sym (map-append (λ (f : FieldName). operand_of f.type) (fields_down (rest program names classes are n d.0.superclass)) (own_instance_fields p.parts))
      ∙ ap (λ cs. kinds_of (fields_down cs)) (sym (up_one program names classes are n class d.0 d.1))
    where
      above : (s : Option ℕ) → IfSome s (λ k. k < length names)
          → ((k : ℕ) → k < length classes → kinds_down n classes k ≡ kinds_of (fields_down (up program names classes are n k)))
          → kinds_above n classes s ≡ kinds_of (fields_down (rest program names classes are n s))
      above None w h = refl
      above (Some s) w h = h s (omega (arith, w, are.many))

  -- the kinds of all classes' fields
  pub are_kinds : (view : KindsView) → AreKindRows (length classes) classes view.lists (map Some view.rows) → length view.rows ≡ length classes
      → AreKinds program names view
  unfolding AreKindRows
  are_kinds view known long = λ class small.
      let less : class < length classes = omega (arith, small, are.many) in
      let row = there view.rows class (omega (arith, less, long)) in
      let at : get_or (map Some view.rows) class None ≡ Some row.0 = some_at view.rows class row.0 row.1 in
      let has = known class row.0 (length classes) at (omega arith) in
      ap (λ o. elim o as (λ _. Option (List OperandType)) [
        | None ↦ None
        | Some row ↦ elim (slice_get view.lists row.list) as (λ _. Option (List OperandType)) [ None ↦ None | Some list ↦ head_of row.length list.items ]
      ]) row.1
      ∙ ap (λ o. elim o as (λ _. Option (List OperandType)) [ None ↦ None | Some list ↦ head_of row.0.length list.items ]) has.list_is
      ∙ ap (λ n. head_of n has.list.items) has.many
      ∙ ap (head_of (length (kinds_down (length classes) classes class))) has.items
      ∙ head_is (kinds_down (length classes) classes class) has.more
      ∙ ap Some (kinds_named (length classes) class less)
      ∙ ap (λ fs. Some (kinds_of fs)) (sym (instance_are program names classes are class))
    where
      some_at : (rows : List KindRow) (k : ℕ) (row : KindRow) → slice_get rows k ≡ Some row → get_or (map Some rows) k None ≡ Some row
      some_at [] k row e = cc
      some_at (r ∷ rows) zero row e = e
      some_at (r ∷ rows) (suc k) row e = some_at rows k row e
