-- Slots of fields, with one more field.
use Rattle.std.proofs.Common.{◌≡◌, ℕ, zero, suc, ◌+◌, ◌<◌, List, [], ◌∷◌, ◌++◌, Option, Some, None, Bool, true, false, cond, length, get_or, take, not}
use Rattle.std.proofs.Common.{refl, sym, ◌∙◌, ap, arith, slice_get, append_assoc, append-nil, length-append, length-take}
use Rattle.std.specs.List.{filter}
use Rattle.std.proofs.lemmas.List.{take_more}
use Rattle.std.proofs.lemmas.List.Elements.{filter-append}
use Rattle.jm_program.specs.Flags.{is_static}
use Rattle.jm_program.specs.declared.class.Field.{Field}
use Rattle.jm_tables.specs.declared.extent.DeclaredFields.{DeclaredFields}
use Rattle.jm_tables.specs.declared.layout.FieldNumber.{FieldNumber}
use Rattle.jm_tables.specs.declared.layout.FieldSlot.{FieldSlot}
use Rattle.jm_tables.specs.declared.layout.FieldSlot.TheVariants.{Instance, Static}
use Rattle.jm_tables.specs.Extents.{own_count}
use Rattle.jm_tables.specs.Layouts.{slots_from, statics_among, statics_of}

-- the slot of a field behind others
abbrev pub slot_behind : ℕ → ℕ → List Field → Bool → FieldSlot
slot_behind place number fields true = Static (number + length (filter (λ f. is_static f.flags) fields))
slot_behind place number fields false = Instance (place + own_count fields)

slots_push : (place number : ℕ) (fs : List Field) (f : Field)
    → slots_from place number (fs ++ f ∷ []) ≡ slots_from place number fs ++ slot_behind place number fs (is_static f.flags) ∷ []
slots_push place number [] f = by (is_static f.flags)
  where
    by : (t : Bool) → (elim t as (λ _. List FieldSlot) [ true ↦ Static number ∷ [] | false ↦ Instance place ∷ [] ]) ≡ slot_behind place number [] t ∷ []
    by true = let same : number + 0 ≡ number = omega arith in ap (λ n. Static n ∷ []) (sym same)
    by false = let same : place + 0 ≡ place = omega arith in ap (λ n. Instance n ∷ []) (sym same)
slots_push place number (g ∷ fs) f =
    by (is_static g.flags) (is_static f.flags) (slots_push place (number + 1) fs f) (slots_push (place + 1) number fs f)
  where
    by : (s t : Bool) → slots_from place (number + 1) (fs ++ f ∷ []) ≡ slots_from place (number + 1) fs ++ slot_behind place (number + 1) fs t ∷ []
        → slots_from (place + 1) number (fs ++ f ∷ []) ≡ slots_from (place + 1) number fs ++ slot_behind (place + 1) number fs t ∷ []
        → (elim s as (λ _. List FieldSlot) [
          | true ↦ Static number ∷ slots_from place (number + 1) (fs ++ f ∷ [])
          | false ↦ Instance place ∷ slots_from (place + 1) number (fs ++ f ∷ [])
        ])
        ≡ (elim s as (λ _. List FieldSlot) [
          | true ↦ Static number ∷ slots_from place (number + 1) fs
          | false ↦ Instance place ∷ slots_from (place + 1) number fs
        ])
        ++ (elim t as (λ _. FieldSlot) [
          | true ↦ Static (number + length (cond s (g ∷ filter (λ f. is_static f.flags) fs) (filter (λ f. is_static f.flags) fs)))
          | false ↦ Instance (place + length (cond (not s) (g ∷ filter (λ f. not (is_static f.flags)) fs) (filter (λ f. not (is_static f.flags)) fs)))
        ]) ∷ []
    by true true e h =
        let more : number + 1 + length (filter (λ f. is_static f.flags) fs) ≡ number + suc (length (filter (λ f. is_static f.flags) fs)) = omega arith in
        ap (λ xs. Static number ∷ xs) (e ∙ ap (λ n. slots_from place (number + 1) fs ++ Static n ∷ []) more)
    by true false e h = ap (λ xs. Static number ∷ xs) e
    by false true e h = ap (λ xs. Instance place ∷ xs) h
    by false false e h =
        let more : place + 1 + length (filter (λ f. not (is_static f.flags)) fs)
        ≡ place + suc (length (filter (λ f. not (is_static f.flags)) fs)) = omega arith in
        ap (λ xs. Instance place ∷ xs) (h ∙ ap (λ n. slots_from (place + 1) number fs ++ Instance n ∷ []) more)

-- of the static fields the next
statics_push : (class k : ℕ) (fs : List Field) (f : Field)
    → statics_among class k (fs ++ f ∷ []) ≡ statics_among class k fs ++ cond (is_static f.flags) (record { class = class; field = k + length fs } ∷ []) []
statics_push class k [] f = by (is_static f.flags)
  where
    by : (t : Bool) → (elim t as (λ _. List FieldNumber) [ true ↦ record { class = class; field = k } ∷ [] | false ↦ [] ])
        ≡ cond t (record { class = class; field = k + 0 } ∷ []) []
    by true = let same : k + 0 ≡ k = omega arith in ap (λ n. record { class = class; field = n } ∷ []) (sym same)
    by false = refl
statics_push class k (g ∷ fs) f = by (is_static g.flags) (statics_push class (k + 1) fs f)
  where
    next : k + 1 + length fs ≡ k + suc (length fs)
    next = omega arith

    rest : List FieldNumber
    rest = cond (is_static f.flags) (record { class = class; field = k + 1 + length fs } ∷ []) []

    by : (s : Bool) → statics_among class (k + 1) (fs ++ f ∷ []) ≡ statics_among class (k + 1) fs ++ rest
        → (elim s as (λ _. List FieldNumber) [
          | true ↦ record { class = class; field = k } ∷ statics_among class (k + 1) (fs ++ f ∷ [])
          | false ↦ statics_among class (k + 1) (fs ++ f ∷ [])
        ])
        ≡ (elim s as (λ _. List FieldNumber) [
          | true ↦ record { class = class; field = k } ∷ statics_among class (k + 1) fs
          | false ↦ statics_among class (k + 1) fs
        ])
        ++ cond (is_static f.flags) (record { class = class; field = k + suc (length fs) } ∷ []) []
    by true e = ap (λ (xs : List FieldNumber). record { class = class; field = k } ∷ xs)
        (e ∙ ap (λ n. statics_among class (k + 1) fs ++ cond (is_static f.flags) (record { class = class; field = n } ∷ []) []) next)
    by false e = e ∙ ap (λ n. statics_among class (k + 1) fs ++ cond (is_static f.flags) (record { class = class; field = n } ∷ []) []) next

-- there are as many as the fields that are static
pub statics_counted : (class k : ℕ) (fs : List Field) → length (statics_among class k fs) ≡ length (filter (λ f. is_static f.flags) fs)
statics_counted class k [] = refl
statics_counted class k (f ∷ fs) = by (is_static f.flags) (statics_counted class (k + 1) fs)
  where
    by : (s : Bool) → length (statics_among class (k + 1) fs) ≡ length (filter (λ f. is_static f.flags) fs)
        → length (elim s as (λ _. List FieldNumber) [
          | true ↦ record { class = class; field = k } ∷ statics_among class (k + 1) fs
          | false ↦ statics_among class (k + 1) fs
        ])
        ≡ length (cond s (f ∷ filter (λ f. is_static f.flags) fs) (filter (λ f. is_static f.flags) fs))
    by true e = ap suc e
    by false e = e

own_push : (fs : List Field) (f : Field) → own_count (fs ++ f ∷ []) ≡ own_count fs + cond (is_static f.flags) 0 1
own_push fs f = ap (λ (xs : List Field). length xs) (filter-append (λ f. not (is_static f.flags)) fs (f ∷ []))
    ∙ length-append (filter (λ f. not (is_static f.flags)) fs) (cond (not (is_static f.flags)) (f ∷ []) []) ∙ by (is_static f.flags)
  where
    by : (t : Bool) → own_count fs + length (cond (not t) (f ∷ []) []) ≡ own_count fs + cond t 0 1
    by true = refl
    by false = refl

-- one more field of a class: its slot, its number if it is static, and the next place
pub record IsMore (place number class i : ℕ) (fs : List Field) (f : Field) : Type 0 where
  pub slots : slots_from place number (take (i + 1) fs) ≡ slots_from place number (take i fs) ++ slot_behind place number (take i fs) (is_static f.flags) ∷ []
  pub statics : statics_among class 0 (take (i + 1) fs)
      ≡ statics_among class 0 (take i fs) ++ cond (is_static f.flags) (record { class = class; field = i } ∷ []) []
  pub own : own_count (take (i + 1) fs) ≡ own_count (take i fs) + cond (is_static f.flags) 0 1

pub one_more : (place number class i : ℕ) (fs : List Field) (f : Field) → i < length fs → f ≡ get_or fs i f → IsMore place number class i fs f
one_more place number class i fs f less is = record {
  slots = ap (slots_from place number) more ∙ slots_push place number (take i fs) f;
  statics = ap (statics_among class 0) more ∙ statics_push class 0 (take i fs) f
      ∙ ap (λ n. statics_among class 0 (take i fs) ++ cond (is_static f.flags) (record { class = class; field = n } ∷ []) []) at;
  own = ap own_count more ∙ own_push (take i fs) f;
}
  where
    more : take (i + 1) fs ≡ take i fs ++ f ∷ []
    more = rw (take_more fs i f less, ← is) refl

    at : 0 + length (take i fs) ≡ i
    at = omega (arith, length-take {A = Field})

-- what stands after some fields
pub record AreSlots (place class i : ℕ) (fs : List Field) (old : List FieldNumber) (slots : List FieldSlot) (statics : List FieldNumber)
    (next : ℕ) : Type 0 where
  pub slots_are : slots ≡ slots_from place (length old) (take i fs)
  pub statics_are : statics ≡ old ++ statics_among class 0 (take i fs)
  pub next_is : next ≡ place + own_count (take i fs)

pub static_more : (place class i : ℕ) (fs : List Field) (old : List FieldNumber) (slots : List FieldSlot) (statics : List FieldNumber) (next : ℕ) (f : Field)
    (n k : ℕ) → i < length fs → f ≡ get_or fs i f → is_static f.flags ≡ true → AreSlots place class i fs old slots statics next → n ≡ length statics → k ≡ i
    → AreSlots place class (i + 1) fs old (slots ++ Static n ∷ []) (statics ++ record { class = class; field = k } ∷ []) next
static_more place class i fs old slots statics next f n k less is t a at same =
    let more = one_more place (length old) class i fs f less is in
    let count : n ≡ length old + length (filter (λ f. is_static f.flags) (take i fs)) = at ∙ ap (λ (xs : List FieldNumber). length xs) a.statics_are
    ∙ length-append old (statics_among class 0 (take i fs)) ∙ ap (λ m. length old + m) (statics_counted class 0 (take i fs)) in
    record {
      slots_are = ap (λ (xs : List FieldSlot). xs ++ Static n ∷ []) a.slots_are
          ∙ ap (λ m. slots_from place (length old) (take i fs) ++ Static m ∷ []) count
          ∙ sym (more.slots ∙ ap (λ b. slots_from place (length old) (take i fs) ++ slot_behind place (length old) (take i fs) b ∷ []) t);
      statics_are = ap (λ (xs : List FieldNumber). xs ++ record { class = class; field = k } ∷ []) a.statics_are
          ∙ append_assoc old (statics_among class 0 (take i fs)) (record { class = class; field = k } ∷ [])
          ∙ ap (λ m. old ++ (statics_among class 0 (take i fs) ++ record { class = class; field = m } ∷ [])) same
          ∙ ap (λ xs. old ++ xs) (sym (more.statics ∙ ap (λ b. statics_among class 0 (take i fs) ++ cond b (record { class = class; field = i } ∷ []) []) t));
      next_is = let own = more.own ∙ ap (λ b. own_count (take i fs) + cond b 0 1) t in omega (arith, a.next_is, own);
    }

pub instance_more : (place class i : ℕ) (fs : List Field) (old : List FieldNumber) (slots : List FieldSlot) (statics : List FieldNumber) (next : ℕ) (f : Field)
    (after : ℕ) → i < length fs → f ≡ get_or fs i f → is_static f.flags ≡ false → AreSlots place class i fs old slots statics next → after ≡ next + 1
    → AreSlots place class (i + 1) fs old (slots ++ Instance next ∷ []) statics after
instance_more place class i fs old slots statics next f after less is t a at =
    let more = one_more place (length old) class i fs f less is in
    record {
      slots_are = ap (λ (xs : List FieldSlot). xs ++ Instance next ∷ []) a.slots_are
          ∙ ap (λ m. slots_from place (length old) (take i fs) ++ Instance m ∷ []) a.next_is
          ∙ sym (more.slots ∙ ap (λ b. slots_from place (length old) (take i fs) ++ slot_behind place (length old) (take i fs) b ∷ []) t);
      statics_are = a.statics_are
          ∙ ap (λ xs. old ++ xs) (sym (more.statics ∙ ap (λ b. statics_among class 0 (take i fs) ++ cond b (record { class = class; field = i } ∷ []) []) t
          ∙ append-nil (statics_among class 0 (take i fs))));
      next_is = let own = more.own ∙ ap (λ b. own_count (take i fs) + cond b 0 1) t in omega (arith, a.next_is, at, own);
    }

pub are_slots : (place class i : ℕ) (fs : List Field) (old : List FieldNumber) (slots new : List FieldSlot) (statics after : List FieldNumber) (next then_ : ℕ)
    → new ≡ slots → after ≡ statics → then_ ≡ next → AreSlots place class i fs old slots statics next → AreSlots place class i fs old new after then_
are_slots place class i fs old slots new statics after next then_ e h g a =
    record { slots_are = e ∙ a.slots_are; statics_are = h ∙ a.statics_are; next_is = g ∙ a.next_is }

-- the slot of a field of a number
pub slot_found : (place number : ℕ) (fs : List Field) (i : ℕ) (f : Field) → slice_get fs i ≡ Some f
    → slice_get (slots_from place number fs) i ≡ Some (slot_behind place number (take i fs) (is_static f.flags))
slot_found place number [] i f e = cc
slot_found place number (g ∷ fs) zero f e =
    let same : g ≡ f = (let some : Some g ≡ Some f = e in cc) in
    by (is_static g.flags) ∙ ap (λ (x : Field). Some (slot_behind place number [] (is_static x.flags))) same
  where
    by : (t : Bool) → slice_get (elim t as (λ _. List FieldSlot) [
      | true ↦ Static number ∷ slots_from place (number + 1) fs
      | false ↦ Instance place ∷ slots_from (place + 1) number fs
    ]) 0
        ≡ Some (slot_behind place number [] t)
    by true = let same : number + 0 ≡ number = omega arith in ap (λ n. Some (Static n)) (sym same)
    by false = let same : place + 0 ≡ place = omega arith in ap (λ n. Some (Instance n)) (sym same)
slot_found place number (g ∷ fs) (suc i) f e =
    by (is_static g.flags) (is_static f.flags) (slot_found place (number + 1) fs i f e) (slot_found (place + 1) number fs i f e)
  where
    by : (s t : Bool) → slice_get (slots_from place (number + 1) fs) i ≡ Some (slot_behind place (number + 1) (take i fs) t)
        → slice_get (slots_from (place + 1) number fs) i ≡ Some (slot_behind (place + 1) number (take i fs) t)
        → slice_get (elim s as (λ _. List FieldSlot) [
          | true ↦ Static number ∷ slots_from place (number + 1) fs
          | false ↦ Instance place ∷ slots_from (place + 1) number fs
        ]) (suc i)
        ≡ Some (elim t as (λ _. FieldSlot) [
          | true ↦ Static (number + length (cond s (g ∷ filter (λ f. is_static f.flags) (take i fs)) (filter (λ f. is_static f.flags) (take i fs))))
          | false ↦ Instance (place + length (cond (not s) (g ∷ filter (λ f. not (is_static f.flags)) (take i fs)) (filter (λ f. not (is_static f.flags))
              (take i fs))))
        ])
    by true true e h =
        let more : number + 1 + length (filter (λ f. is_static f.flags) (take i fs))
        ≡ number + suc (length (filter (λ f. is_static f.flags) (take i fs))) = omega arith in
        e ∙ ap (λ n. Some (Static n)) more
    by true false e h = e
    by false true e h = h
    by false false e h =
        let more : place + 1 + length (filter (λ f. not (is_static f.flags)) (take i fs))
        ≡ place + suc (length (filter (λ f. not (is_static f.flags)) (take i fs))) = omega arith in
        h ∙ ap (λ n. Some (Instance n)) more
