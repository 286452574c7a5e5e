-- The content of slots, by place and by serial.
use Rattle.std.proofs.Common.{◌≡◌, ◌≢◌, ◌⊎◌, ℕ, zero, suc, ◌+◌, ◌≤◌, List, [], ◌∷◌, Option, Some, None, Bool, true, false, refl, sym, ap, ◌∙◌, inl, inr, length, arith}
use Rattle.std.specs.Prelude.{map, slice_get, nat_eq, unwrap_or}
use Rattle.std.proofs.lemmas.Bool.Decides.{eqb_tells}
use Rattle.std.proofs.lemmas.List.Sums.{sum_by-cons}
use Rattle.jm_program.proofs.Numbers.{found_unequal, found_equal}
use Rattle.jm_values.specs.declared.value.Value.{Value}
use Rattle.jm_values.specs.declared.value.Value.TheVariants.{Int, Long, Null, Ref}
use Rattle.jm_values.specs.Rename.{rename, refs, stack_shape}
use Rattle.jm_values.specs.Shape.{Among}
use Rattle.jm_values.proofs.Among.{among_left, among_right}
use Rattle.jm_values.specs.Objects.{ObjectOf}
use Rattle.jm_values.specs.Content.{Content, Resident, IsSound, serial_in, serial_at, object_at, name_of}
use Rattle.jm_values.specs.Content as content
use Rattle.jm_heap.specs.Cells.{class_size, cells_of_all, resident_cells}
use Rattle.jm_heap.specs.Slots.{AreSound, object_in, object_of, serial_of, name_in, named_object, residents_from, content_of, slots_cells, slot_cells, Object, Slot}
use Rattle.jm_heap.specs.declared.class_id.ClassId.{ClassId}
use Rattle.jm_heap.proofs.SlotLemmas.{slot_at}

pub choose_true : {A : Type 0} (b : Bool) (x y : A) → b ≡ true → (elim b as (λ _. A) [ true ↦ x | false ↦ y ]) ≡ x
choose_true true x y e = refl
choose_true false x y e = cc

pub choose_false : {A : Type 0} (b : Bool) (x y : A) → b ≡ false → (elim b as (λ _. A) [ true ↦ x | false ↦ y ]) ≡ y
choose_false true x y e = cc
choose_false false x y e = refl

-- no place of an earlier slot
too_low : (name : ℕ → ℕ) (i : ℕ) (slots : List Slot) (p : ℕ) → p ≤ i → serial_in (residents_from name i slots) p ≡ None
too_low name i [] p h = refl
too_low name i (None ∷ slots) p h = too_low name (suc i) slots p (omega arith)
too_low name i (Some o ∷ slots) p h =
    choose_false (nat_eq p (suc i)) (Some o.serial) (serial_in (residents_from name (suc i) slots) p) (found_unequal p (suc i) (λ e. omega arith))
    ∙ too_low name (suc i) slots p (omega arith)

serial_from : (name : ℕ → ℕ) (i : ℕ) (slots : List Slot) (k q : ℕ) → q ≡ suc (i + k) → serial_in (residents_from name i slots) q ≡ serial_of (object_of (slice_get slots k))
serial_from name i [] k q e = refl
serial_from name i (None ∷ slots) zero q e = too_low name (suc i) slots q (omega arith)
serial_from name i (None ∷ slots) (suc k) q e = serial_from name (suc i) slots k q (omega arith)
serial_from name i (Some o ∷ slots) zero q e =
    choose_true (nat_eq q (suc i)) (Some o.serial) (serial_in (residents_from name (suc i) slots) q) (found_equal q (suc i) (omega arith))
serial_from name i (Some o ∷ slots) (suc k) q e =
    choose_false (nat_eq q (suc i)) (Some o.serial) (serial_in (residents_from name (suc i) slots) q) (found_unequal q (suc i) (λ h. omega arith))
    ∙ serial_from name (suc i) slots k q (omega arith)

-- a place has the serial of what lies in its slot
pub serial_of_place : (limit next : ℕ) (slots : List Slot) (p : ℕ) → serial_at (content_of limit next slots) p ≡ serial_of (object_in slots p)
unfolding serial_at content_of
serial_of_place limit next slots zero = too_low (name_in slots) 0 slots zero (omega arith)
serial_of_place limit next slots (suc i) = serial_from (name_in slots) 0 slots i (suc i) (omega arith)

abbrev pub Apart : List Slot → Type 0
Apart slots = (j k : ℕ) (a b : Object) → slice_get slots j ≡ Some (Some a) → slice_get slots k ≡ Some (Some b) → a.serial ≡ b.serial → j ≡ k

pub tail_apart : (s : Slot) (slots : List Slot) → Apart (s ∷ slots) → Apart slots
tail_apart s slots h j k a b e f g = let same : suc j ≡ suc k = h (suc j) (suc k) a b e f g in omega arith

pub apart_of : (next : ℕ) (slots : List Slot) → AreSound next slots → Apart slots
apart_of next slots s j k a b e f g = let same : suc j ≡ suc k = s.apart (suc j) (suc k) a b (ap object_of e) (ap object_of f) g in omega arith

object_from : (name : ℕ → ℕ) (i : ℕ) (slots : List Slot) (k : ℕ) (o : Object) → Apart slots → slice_get slots k ≡ Some (Some o) → content.object_in (residents_from name i slots) o.serial ≡ Some (named_object name o)
object_from name i [] k o h e = cc
object_from name i (None ∷ slots) zero o h e = cc
object_from name i (None ∷ slots) (suc k) o h e = object_from name (suc i) slots k o (tail_apart None slots h) e
object_from name i (Some a ∷ slots) zero o h e =
    let same : a ≡ o = cc in
    choose_true (nat_eq o.serial a.serial) (Some (named_object name a)) (content.object_in (residents_from name (suc i) slots) o.serial) (found_equal o.serial a.serial (ap (λ x. x.serial) (sym same)))
    ∙ ap (λ x. Some (named_object name x)) same
object_from name i (Some a ∷ slots) (suc k) o h e =
    choose_false (nat_eq o.serial a.serial) (Some (named_object name a)) (content.object_in (residents_from name (suc i) slots) o.serial) (found_unequal o.serial a.serial (λ s. let same : zero ≡ suc k = h zero (suc k) a o refl e (sym s) in omega arith))
    ∙ object_from name (suc i) slots k o (tail_apart (Some a) slots h) e

-- where an object comes from
pub record From (name : ℕ → ℕ) (slots : List Slot) (k : ℕ) (x : ObjectOf ClassId) : Type 0 where
  pub slot : ℕ
  pub object : Object
  pub taken : slice_get slots slot ≡ Some (Some object)
  pub serial : object.serial ≡ k
  pub named : x ≡ named_object name object

from_tail : (name : ℕ → ℕ) (s : Slot) (slots : List Slot) (k : ℕ) (x : ObjectOf ClassId) → From name slots k x → From name (s ∷ slots) k x
from_tail name s slots k x f = record { slot = suc f.slot; object = f.object; taken = f.taken; serial = f.serial; named = f.named }

pub only_from : (name : ℕ → ℕ) (i : ℕ) (slots : List Slot) (k : ℕ) (x : ObjectOf ClassId) → content.object_in (residents_from name i slots) k ≡ Some x → From name slots k x
only_from name i [] k x e = cc
only_from name i (None ∷ slots) k x e = from_tail name None slots k x (only_from name (suc i) slots k x e)
only_from name i (Some o ∷ slots) k x e = by (only_from name (suc i) slots k x) (eqb_tells k o.serial)
  where
    by : (content.object_in (residents_from name (suc i) slots) k ≡ Some x → From name slots k x) → ((nat_eq k o.serial ≡ true) × (k ≡ o.serial)) ⊎ ((nat_eq k o.serial ≡ false) × (k ≢ o.serial)) → From name (Some o ∷ slots) k x
    by later (inl t) =
        let it : Some (named_object name o) ≡ Some x = sym (choose_true (nat_eq k o.serial) (Some (named_object name o)) (content.object_in (residents_from name (suc i) slots) k) t.0) ∙ e in
        record { slot = zero; object = o; taken = refl; serial = sym t.1; named = cc }
    by later (inr t) =
        from_tail name (Some o) slots k x (later (sym (choose_false (nat_eq k o.serial) (Some (named_object name o)) (content.object_in (residents_from name (suc i) slots) k) t.0) ∙ e))

-- the cells of the content are those of the slots
length_renamed : (name : ℕ → ℕ) (vs : List Value) → length (map (rename name) vs) ≡ length vs
length_renamed name [] = refl
length_renamed name (v ∷ vs) = ap suc (length_renamed name vs)

cells_from : (name : ℕ → ℕ) (i : ℕ) (slots : List Slot) → cells_of_all (residents_from name i slots) ≡ slots_cells slots
cells_from name i [] = refl
cells_from name i (None ∷ slots) = cells_from name (suc i) slots ∙ sym (sum_by-cons slot_cells None slots ∙ zero_first (slots_cells slots))
  where
    zero_first : (n : ℕ) → 0 + n ≡ n
    zero_first n = omega arith
cells_from name i (Some o ∷ slots) =
    let total = sum_by-cons slot_cells (Some o) slots in
    let rest = cells_from name (suc i) slots in
    let many = ap (class_size o.class) (length_renamed name o.values) in
    omega (arith, total, rest, many)

pub cells_of_content : (limit next : ℕ) (slots : List Slot) → resident_cells (content_of limit next slots) ≡ slots_cells slots
unfolding resident_cells content_of
cells_of_content limit next slots = cells_from (name_in slots) 0 slots

-- names that agree on the references of values
pub rename_same : (f g : ℕ → ℕ) (v : Value) → ((p : ℕ) → Among p (refs v) → f p ≡ g p) → rename f v ≡ rename g v
rename_same f g (Int n) h = refl
rename_same f g (Long n) h = refl
rename_same f g Null h = refl
rename_same f g (Ref p) h = ap Ref (h p (inl refl))

pub rename_all_same : (f g : ℕ → ℕ) (vs : List Value) → ((p : ℕ) → Among p (stack_shape.refs vs) → f p ≡ g p) → map (rename f) vs ≡ map (rename g) vs
rename_all_same f g [] h = refl
rename_all_same f g (v ∷ vs) h =
    ap (λ x. x ∷ map (rename f) vs) (rename_same f g v (λ p a. h p (among_left p (refs v) (stack_shape.refs vs) a)))
    ∙ ap (λ xs. rename g v ∷ xs) (rename_all_same f g vs (λ p a. h p (among_right p (refs v) (stack_shape.refs vs) a)))

pub named_same : (f g : ℕ → ℕ) (o : Object) → ((p : ℕ) → Among p (stack_shape.refs o.values) → f p ≡ g p) → named_object f o ≡ named_object g o
named_same f g o h = ap (λ (vs : List Value). record { type = o.class; values = vs }) (rename_all_same f g o.values h)

-- a heap's places and the content that they show
pub record Shows (f : ℕ → Option Object) (c : Content ClassId) : Type 0 where
  pub serials : (p : ℕ) → serial_at c p ≡ serial_of (f p)
  pub objects : (p : ℕ) (a : Object) → f p ≡ Some a → object_at c a.serial ≡ Some (named_object (name_of c) a)
  pub only : (k : ℕ) (x : ObjectOf ClassId) → object_at c k ≡ Some x → (p : ℕ) × (a : Object) × (f p ≡ Some a) × (a.serial ≡ k) × (x ≡ named_object (name_of c) a)

pub name_of_place : (limit next : ℕ) (slots : List Slot) (p : ℕ) → name_in slots p ≡ name_of (content_of limit next slots) p
unfolding name_of
name_of_place limit next slots p = ap (λ o. unwrap_or o 0) (sym (serial_of_place limit next slots p))

pub slots_show : (limit next : ℕ) (slots : List Slot) → AreSound next slots → Shows (object_in slots) (content_of limit next slots)
unfolding object_at content_of
slots_show limit next slots s = record {
  serials = serial_of_place limit next slots;
  objects = λ p a e. at p a e;
  only = λ k x e. found k x (only_from (name_in slots) 0 slots k x e);
}
  where
    at : (p : ℕ) (a : Object) → object_in slots p ≡ Some a → content.object_in (residents_from (name_in slots) 0 slots) a.serial ≡ Some (named_object (name_of (content_of limit next slots)) a)
    at zero a e = cc
    at (suc i) a e = object_from (name_in slots) 0 slots i a (apart_of next slots s) (slot_at slots i a e) ∙ ap Some (named_same (name_in slots) (name_of (content_of limit next slots)) a (λ p h. name_of_place limit next slots p))

    found : (k : ℕ) (x : ObjectOf ClassId) → From (name_in slots) slots k x → (p : ℕ) × (a : Object) × (object_in slots p ≡ Some a) × (a.serial ≡ k) × (x ≡ named_object (name_of (content_of limit next slots)) a)
    found k x f = (suc f.slot, f.object, ap object_of f.taken, f.serial, f.named ∙ named_same (name_in slots) (name_of (content_of limit next slots)) f.object (λ p h. name_of_place limit next slots p))
