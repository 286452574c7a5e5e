-- Rows that stand for kinds, while lists grow.
use Rattle.std.proofs.Common.{◌≡◌, ◌≢◌, ℕ, zero, suc, ◌<◌, ◌≤◌, List, [], ◌∷◌, ◌++◌, Option, Some, None, Bool, nat_eq, nat_le, true, false, length, take}
use Rattle.std.proofs.Common.{get_or, set, refl, sym, ◌∙◌, ap, subst, arith, slice_get, eq-eqb, eqb-true, length-append, append_assoc, append-nil, Vec, Global}
use Rattle.std.proofs.lemmas.Option.{slice_get_read, slice_get_within}
use Rattle.std.proofs.Math.Seq.{take-append_seam}
use Rattle.jm_program.specs.declared.instruction.operation.OperandType.{OperandType}
use Rattle.jm_program.proofs.Sequences.{got_front, got_last, none_left}
use Rattle.jm_tables.specs.declared.field_kinds.KindRow.{KindRow}
use Rattle.jm_tables.specs.FieldKinds.{HasKinds, IsWhole, head_of}

abbrev pub no_kinds : KindRow
no_kinds = record { list = 0; length = 0 }

got_set : {A : Type 0} (xs : List A) (i : ℕ) (x : A) → i < length xs → slice_get (set xs i x) i ≡ Some x
got_set [] i x h = absurd (omega (arith, h))
got_set (y ∷ xs) zero x h = refl
got_set (y ∷ xs) (suc i) x h = got_set xs i x (omega (arith, h))

got_other : {A : Type 0} (xs : List A) (i : ℕ) (x : A) (j : ℕ) → j ≢ i → slice_get (set xs i x) j ≡ slice_get xs j
got_other [] i x j h = refl
got_other (y ∷ xs) zero x zero h = absurd (h refl)
got_other (y ∷ xs) zero x (suc j) h = refl
got_other (y ∷ xs) (suc i) x zero h = refl
got_other (y ∷ xs) (suc i) x (suc j) h = got_other xs i x j (λ e. h (ap suc e))

-- a row's kinds are at the head of its list
pub head_is : (kinds more : List OperandType) → head_of (length kinds) (kinds ++ more) ≡ Some kinds
head_is kinds more = by (nat_le (length kinds) (length (kinds ++ more))) refl
  where
    by : (t : Bool) → nat_le (length kinds) (length (kinds ++ more)) ≡ t
        → elim t as (λ _. Option (List OperandType)) [ true ↦ Some (take (length kinds) (kinds ++ more)) | false ↦ None ] ≡ Some kinds
    by true e = ap Some (take-append_seam kinds more)
    by false e = let long = length-append kinds more in absurd (grind (arith, e, long))

pub first_has : (before lists : List (Vec OperandType Global)) (list : Vec OperandType Global) → lists ≡ before ++ list ∷ [] → before ≡ []
    → HasKinds lists no_kinds []
first_has before lists list e none = record {
  list = list;
  list_is = ap (λ ls. slice_get ls 0) (e ∙ ap (λ ls. ls ++ list ∷ []) none);
  more = list.items;
  items = refl;
  many = refl;
}

module _ (lists : List (Vec OperandType Global)) (row : KindRow) (kinds : List OperandType) (has : HasKinds lists row kinds) where
  pub list_read : (list : Vec OperandType Global) → list ≡ get_or lists row.list list → slice_get lists row.list ≡ Some list
  list_read list is = slice_get_read lists (length lists) row.list list refl (slice_get_within lists row.list has.list has.list_is) is

  the_list : (list : Vec OperandType Global) → slice_get lists row.list ≡ Some list → list.items ≡ kinds ++ has.more
  the_list list is = let same : Some has.list ≡ Some list = sym has.list_is ∙ is in let it : has.list ≡ list = cc in
      ap (λ (l : Vec OperandType Global). l.items) (sym it) ∙ has.items

  pub row_short : (list : Vec OperandType Global) → slice_get lists row.list ≡ Some list → row.length ≤ length list.items
  row_short list is = omega (arith, ap length (the_list list is), length-append kinds has.more, has.many)

  pub head_taken : (list : Vec OperandType Global) → slice_get lists row.list ≡ Some list → take row.length list.items ≡ kinds
  head_taken list is =
      ap (λ n. take n list.items) has.many ∙ ap (take (length kinds)) (the_list list is) ∙ take-append_seam kinds has.more

  pub whole_same : (list : Vec OperandType Global) → slice_get lists row.list ≡ Some list → length list.items ≡ row.length → IsWhole lists row.list kinds
  whole_same list is long =
      let none : has.more ≡ [] = none_left has.more (omega (arith, ap length (the_list list is), length-append kinds has.more, has.many, long)) in
      record { list = list; list_is = is; items = the_list list is ∙ ap (λ m. kinds ++ m) none ∙ append-nil kinds }

  pub kept_push : (list : Vec OperandType Global) → HasKinds (lists ++ list ∷ []) row kinds
  kept_push list = record {
    list = has.list;
    list_is = got_front lists (list ∷ []) row.list has.list has.list_is;
    more = has.more;
    items = has.items;
    many = has.many;
  }

  pub kept_set : (number : ℕ) (whole own : List OperandType) (list : Vec OperandType Global) → IsWhole lists number whole → list.items ≡ whole ++ own
      → HasKinds (set lists number list) row kinds
  kept_set number whole own list is items = by (nat_eq row.list number) refl
    where
      by : (t : Bool) → nat_eq row.list number ≡ t → HasKinds (set lists number list) row kinds
      by true e =
          let same : row.list ≡ number = eqb-true row.list number e in
          record {
            list = list;
            list_is = ap (slice_get (set lists number list)) same ∙ got_set lists number list (slice_get_within lists number is.list is.list_is);
            more = has.more ++ own;
            items = items ∙ ap (λ ks. ks ++ own) (sym is.items ∙ the_list is.list (ap (slice_get lists) same ∙ is.list_is)) ∙ append_assoc kinds has.more own;
            many = has.many;
          }
      by false e =
          let ne : row.list ≢ number = λ same. let t = eq-eqb row.list number same in cc in
          record {
            list = has.list;
            list_is = got_other lists number list row.list ne ∙ has.list_is;
            more = has.more;
            items = has.items;
            many = has.many;
          }

  pub over_none : (own : List OperandType) → length own ≡ 0 → HasKinds lists row (kinds ++ own)
  over_none own none = subst (HasKinds lists row) (sym (ap (λ ks. kinds ++ ks) (none_left own none) ∙ append-nil kinds)) has

pub whole_push : (lists : List (Vec OperandType Global)) (list : Vec OperandType Global) (number : ℕ) (kinds : List OperandType) → number ≡ length lists
    → list.items ≡ kinds → IsWhole (lists ++ list ∷ []) number kinds
whole_push lists list number kinds n items = record {
  list = list;
  list_is = ap (slice_get (lists ++ list ∷ [])) n ∙ got_last lists list;
  items = items;
}

pub whole_items : (lists : List (Vec OperandType Global)) (number : ℕ) (kinds : List OperandType) (list : Vec OperandType Global)
    → IsWhole lists number kinds → list ≡ get_or lists number list → list.items ≡ kinds
whole_items lists number kinds list is at =
    let read = slice_get_read lists (length lists) number list refl (slice_get_within lists number is.list is.list_is) at in
    let same : Some is.list ≡ Some list = sym is.list_is ∙ read in let it : is.list ≡ list = cc in
    ap (λ (l : Vec OperandType Global). l.items) (sym it) ∙ is.items

pub whole_over : (lists : List (Vec OperandType Global)) (number many : ℕ) (kinds own : List OperandType) (list : Vec OperandType Global)
    → IsWhole lists number kinds → list.items ≡ kinds ++ own → many ≡ length list.items
    → HasKinds (set lists number list) (record { list = number; length = many }) (kinds ++ own)
whole_over lists number many kinds own list is items long = record {
  list = list;
  list_is = got_set lists number list (slice_get_within lists number is.list is.list_is);
  more = [];
  items = items ∙ sym (append-nil (kinds ++ own));
  many = long ∙ ap length items;
}
