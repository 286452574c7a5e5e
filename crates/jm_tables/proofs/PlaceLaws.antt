-- Places among field names, by classes.
use Rattle.std.proofs.Common.{◌≡◌, ℕ, zero, suc, ◌+◌, ◌<◌, ◌≤◌, List, [], ◌∷◌, ◌++◌, Option, Some, None, Bool, true, false, cond, ◌&&◌, length, take, drop}
use Rattle.std.proofs.Common.{reverse, not}
use Rattle.std.proofs.Common.{refl, sym, ◌∙◌, ap, subst, arith, slice_get, append_assoc, append-nil, length-append}
use Rattle.std.proofs.lemmas.List.{reverse-append}
use Rattle.std.specs.Prelude.{is_some}
use Rattle.std.specs.List.{filter, flat_map}
use Rattle.std.proofs.lemmas.List.Concat.{flat_map-append}
use Rattle.std.proofs.lemmas.Cmp.{nat_list_eq_equiv}
use Rattle.jm_program.specs.Names.{same_text}
use Rattle.jm_program.specs.Flags.{is_static}
use Rattle.jm_program.specs.declared.class.ClassParts.{ClassParts}
use Rattle.jm_program.specs.declared.class.Field.{Field}
use Rattle.jm_program.proofs.Texts.{text_is}
use Rattle.jm_world.specs.Classes.{field_in}
use Rattle.jm_world.specs.Loads.{Refusal, duplicate_member, duplicate_fields, or_else, when}
use Rattle.jm_world.specs.Objects.{FieldName, field_names, own_instance_fields, same_field, place_of_field}
use Rattle.jm_world.specs.Types.{same_type}
use Rattle.jm_world.proofs.Comparing.{type_itself}

-- the fields of classes from one up: those of the topmost first
abbrev pub fields_down : List ClassParts → List FieldName
fields_down [] = []
fields_down (c ∷ cs) = fields_down cs ++ own_instance_fields c

pub fields_are : (cs : List ClassParts) → flat_map own_instance_fields (reverse cs) ≡ fields_down cs
fields_are [] = refl
fields_are (c ∷ cs) =
    ap (flat_map own_instance_fields) (reverse-append (c ∷ []) cs) ∙ flat_map-append own_instance_fields (reverse cs) (c ∷ [])
    ∙ ap (λ xs. flat_map own_instance_fields (reverse cs) ++ xs) (append-nil (own_instance_fields c))
    ∙ ap (λ xs. xs ++ own_instance_fields c) (fields_are cs)

pub as_many_names : (c : ClassParts) (fs : List Field) → length (field_names c fs) ≡ length fs
as_many_names c [] = refl
as_many_names c (f ∷ fs) = ap suc (as_many_names c fs)

-- one further
abbrev pub further : Option ℕ → Option ℕ
further o = elim o as (λ _. Option ℕ) [ None ↦ None | Some i ↦ Some (i + 1) ]

pub place_left : (xs ys : List FieldName) (g : FieldName) (k : ℕ) → place_of_field xs g ≡ Some k → place_of_field (xs ++ ys) g ≡ Some k
place_left [] ys g k e = cc
place_left (x ∷ xs) ys g k e = by (same_field x g) (λ j h. place_left xs ys g j h) k e
  where
    by : (t : Bool) → ((j : ℕ) → place_of_field xs g ≡ Some j → place_of_field (xs ++ ys) g ≡ Some j) → (k : ℕ)
        → (elim t as (λ _. Option ℕ) [ true ↦ Some 0 | false ↦ further (place_of_field xs g) ]) ≡ Some k
        → (elim t as (λ _. Option ℕ) [ true ↦ Some 0 | false ↦ further (place_of_field (xs ++ ys) g) ]) ≡ Some k
    by true more k e = e
    by false more k e = at (place_of_field xs g) refl e
      where
        at : (o : Option ℕ) → place_of_field xs g ≡ o → further o ≡ Some k → further (place_of_field (xs ++ ys) g) ≡ Some k
        at None h e = cc
        at (Some j) h e = ap further (more j h) ∙ e

pub place_right : (xs ys : List FieldName) (g : FieldName) (k : ℕ) → place_of_field xs g ≡ None → place_of_field ys g ≡ Some k
    → place_of_field (xs ++ ys) g ≡ Some (length xs + k)
place_right [] ys g k none e = e ∙ ap Some (let same : k ≡ 0 + k = omega arith in same)
place_right (x ∷ xs) ys g k none e = by (same_field x g) (λ h. place_right xs ys g k h e) none
  where
    by : (t : Bool) → (place_of_field xs g ≡ None → place_of_field (xs ++ ys) g ≡ Some (length xs + k))
        → (elim t as (λ _. Option ℕ) [ true ↦ Some 0 | false ↦ further (place_of_field xs g) ]) ≡ None
        → (elim t as (λ _. Option ℕ) [ true ↦ Some 0 | false ↦ further (place_of_field (xs ++ ys) g) ]) ≡ Some (suc (length xs) + k)
    by true more none = cc
    by false more none = at (place_of_field xs g) refl none
      where
        at : (o : Option ℕ) → place_of_field xs g ≡ o → further o ≡ None → further (place_of_field (xs ++ ys) g) ≡ Some (suc (length xs) + k)
        at None h n = ap further (more h) ∙ ap Some (let same : length xs + k + 1 ≡ suc (length xs) + k = omega arith in same)
        at (Some j) h n = cc

pub place_nowhere : (xs ys : List FieldName) (g : FieldName) → place_of_field xs g ≡ None → place_of_field ys g ≡ None → place_of_field (xs ++ ys) g ≡ None
place_nowhere [] ys g none e = e
place_nowhere (x ∷ xs) ys g none e = by (same_field x g) (λ h. place_nowhere xs ys g h e) none
  where
    by : (t : Bool) → (place_of_field xs g ≡ None → place_of_field (xs ++ ys) g ≡ None)
        → (elim t as (λ _. Option ℕ) [ true ↦ Some 0 | false ↦ further (place_of_field xs g) ]) ≡ None
        → (elim t as (λ _. Option ℕ) [ true ↦ Some 0 | false ↦ further (place_of_field (xs ++ ys) g) ]) ≡ None
    by true more none = cc
    by false more none = at (place_of_field xs g) refl none
      where
        at : (o : Option ℕ) → place_of_field xs g ≡ o → further o ≡ None → further (place_of_field (xs ++ ys) g) ≡ None
        at None h n = ap further (more h)
        at (Some j) h n = cc

-- fields of a class of another name
other_class : (c : ClassParts) (fs : List Field) (g : FieldName) → same_text c.name g.class ≡ false → place_of_field (field_names c fs) g ≡ None
other_class c [] g e = refl
other_class c (f ∷ fs) g e = by (same_text f.name g.name) (same_text c.name g.class) e (other_class c fs g e)
  where
    by : (s t : Bool) → t ≡ false → place_of_field (field_names c fs) g ≡ None
        → (elim (elim s as (λ _. Bool) [
          | true ↦ elim t as (λ _. Bool) [ true ↦ same_type f.descriptor g.type | false ↦ false ]
          | false ↦ false
        ]) as (λ _. Option ℕ)
        [ true ↦ Some 0 | false ↦ further (place_of_field (field_names c fs) g) ]) ≡ None
    by s true n h = cc
    by true false n h = ap further h
    by false false n h = ap further h

-- the classes have other names
abbrev pub AreOthers : List ClassParts → List ℕ → Type 0
AreOthers cs name = (k : ℕ) (c : ClassParts) → slice_get cs k ≡ Some c → same_text c.name name ≡ false

pub not_in_others : (cs : List ClassParts) (g : FieldName) → AreOthers cs g.class → place_of_field (fields_down cs) g ≡ None
not_in_others [] g h = refl
not_in_others (c ∷ cs) g h =
    place_nowhere (fields_down cs) (own_instance_fields c) g (not_in_others cs g (λ k x e. h (suc k) x e))
    (other_class c (filter (λ f. not (is_static f.flags)) c.fields) g (h 0 c refl))

-- fields are found again below
pub place_up : (cs : List ClassParts) (k : ℕ) (g : FieldName) (p : ℕ) → place_of_field (fields_down (drop k cs)) g ≡ Some p
    → place_of_field (fields_down cs) g ≡ Some p
place_up cs zero g p e = e
place_up [] (suc k) g p e = e
place_up (c ∷ cs) (suc k) g p e = place_left (fields_down cs) (own_instance_fields c) g p (place_up cs k g p e)

-- no field of the name and type is among the earlier ones
apart_from : (seen fs : List Field) (i : ℕ) (f : Field) → duplicate_fields seen fs ≡ None → slice_get fs i ≡ Some f
    → is_some (field_in seen f.name f.descriptor) ≡ false
apart_from seen [] i f none e = cc
apart_from seen (g ∷ fs) zero f none e =
    let same : g ≡ f = (let some : Some g ≡ Some f = e in cc) in
    subst (λ (x : Field). is_some (field_in seen x.name x.descriptor) ≡ false) same (by (is_some (field_in seen g.name g.descriptor)) none)
  where
    by : (t : Bool) → or_else (when t (duplicate_member g.name)) (duplicate_fields (g ∷ seen) fs) ≡ None → t ≡ false
    by true n = cc
    by false n = refl
apart_from seen (g ∷ fs) (suc i) f none e =
    later (same_text g.name f.name && same_type g.descriptor f.descriptor)
    (apart_from (g ∷ seen) fs i f (rest (is_some (field_in seen g.name g.descriptor)) none) e)
  where
    rest : (t : Bool) → or_else (when t (duplicate_member g.name)) (duplicate_fields (g ∷ seen) fs) ≡ None → duplicate_fields (g ∷ seen) fs ≡ None
    rest true n = cc
    rest false n = n

    later : (t : Bool) → is_some (elim t as (λ _. Option Field) [ true ↦ Some g | false ↦ field_in seen f.name f.descriptor ]) ≡ false
        → is_some (field_in seen f.name f.descriptor) ≡ false
    later true h = cc
    later false h = h

pub first_apart : (seen fs : List Field) (g : Field) (i : ℕ) (f : Field) → duplicate_fields (g ∷ seen) fs ≡ None → slice_get fs i ≡ Some f
    → (same_text g.name f.name && same_type g.descriptor f.descriptor) ≡ false
first_apart seen fs g i f none e = by (same_text g.name f.name && same_type g.descriptor f.descriptor) (apart_from (g ∷ seen) fs i f none e)
  where
    by : (t : Bool) → is_some (elim t as (λ _. Option Field) [ true ↦ Some g | false ↦ field_in seen f.name f.descriptor ]) ≡ false → t ≡ false
    by true h = cc
    by false h = refl

-- and none among the rest
pub rest_apart : (seen : List Field) (g : Field) (fs : List Field) → duplicate_fields seen (g ∷ fs) ≡ None → duplicate_fields (g ∷ seen) fs ≡ None
rest_apart seen g fs none = by (is_some (field_in seen g.name g.descriptor)) none
  where
    by : (t : Bool) → or_else (when t (duplicate_member g.name)) (duplicate_fields (g ∷ seen) fs) ≡ None → duplicate_fields (g ∷ seen) fs ≡ None
    by true n = cc
    by false n = n

abbrev pub named_field : ClassParts → Field → FieldName
named_field c f = record { class = c.name; name = f.name; type = f.descriptor }

-- the place of a field among those of its class that pass a test
pub own_place : (test : Field → Bool) (c : ClassParts) (seen fs : List Field) (i : ℕ) (f : Field) → duplicate_fields seen fs ≡ None → slice_get fs i ≡ Some f
    → test f ≡ true → place_of_field (field_names c (filter test fs)) (named_field c f) ≡ Some (length (filter test (take i fs)))
own_place test c seen [] i f none e t = cc
own_place test c seen (g ∷ fs) zero f none e t =
    let same : g ≡ f = (let some : Some g ≡ Some f = e in cc) in
    ap (λ (x : Field). place_of_field (field_names c (filter test (x ∷ fs))) (named_field c f)) same
    ∙ ap (λ b. place_of_field (field_names c (cond b (f ∷ filter test fs) (filter test fs))) (named_field c f)) t
    ∙ by (same_text f.name f.name) (same_text c.name c.name) (same_type f.descriptor f.descriptor) (nat_list_eq_equiv.refl f.name)
    (nat_list_eq_equiv.refl c.name)
    (type_itself f.descriptor)
  where
    by : (p q r : Bool) → p ≡ true → q ≡ true → r ≡ true
        → (elim (elim p as (λ _. Bool) [ true ↦ elim q as (λ _. Bool) [ true ↦ r | false ↦ false ] | false ↦ false ]) as (λ _. Option ℕ)
        [ true ↦ Some 0 | false ↦ further (place_of_field (field_names c (filter test fs)) (named_field c f)) ]) ≡ Some 0
    by true true true a b d = refl
    by true true false a b d = cc
    by true false r a b d = cc
    by false q r a b d = cc
own_place test c seen (g ∷ fs) (suc i) f none e t =
    let rest : duplicate_fields (g ∷ seen) fs ≡ None = later (is_some (field_in seen g.name g.descriptor)) none in
    by (test g) (own_place test c (g ∷ seen) fs i f rest e t)
    (not_same (same_text g.name f.name) (same_text c.name c.name) (same_type g.descriptor f.descriptor) (first_apart seen fs g i f rest e))
  where
    later : (b : Bool) → or_else (when b (duplicate_member g.name)) (duplicate_fields (g ∷ seen) fs) ≡ None → duplicate_fields (g ∷ seen) fs ≡ None
    later true n = cc
    later false n = n

    not_same : (p q r : Bool) → (p && r) ≡ false
        → (elim p as (λ _. Bool) [ true ↦ elim q as (λ _. Bool) [ true ↦ r | false ↦ false ] | false ↦ false ]) ≡ false
    not_same true true r h = h
    not_same true false r h = refl
    not_same false q r h = refl

    by : (b : Bool) → place_of_field (field_names c (filter test fs)) (named_field c f) ≡ Some (length (filter test (take i fs)))
        → same_field (named_field c g) (named_field c f) ≡ false
        → place_of_field (field_names c (cond b (g ∷ filter test fs) (filter test fs))) (named_field c f)
        ≡ Some (length (cond b (g ∷ filter test (take i fs)) (filter test (take i fs))))
    by true h ne =
        ap (λ u. elim u as (λ _. Option ℕ) [ true ↦ Some 0 | false ↦ further (place_of_field (field_names c (filter test fs)) (named_field c f)) ]) ne
        ∙ ap further h ∙ ap Some (let next : length (filter test (take i fs)) + 1 ≡ suc (length (filter test (take i fs))) = omega arith in next)
    by false h ne = h

-- the static fields of a class
abbrev pub static_names : ClassParts → List FieldName
static_names c = field_names c (filter (λ f. is_static f.flags) c.fields)

-- a class's static fields stand behind those of the classes before it
pub static_place : (cs : List ClassParts) (k : ℕ) (c : ClassParts) (g : FieldName) (p : ℕ) → slice_get cs k ≡ Some c → AreOthers (take k cs) g.class
    → place_of_field (static_names c) g ≡ Some p → place_of_field (flat_map static_names cs) g ≡ Some (length (flat_map static_names (take k cs)) + p)
static_place [] k c g p e others h = cc
static_place (x ∷ cs) zero c g p e others h =
    let same : x ≡ c = (let some : Some x ≡ Some c = e in cc) in
    place_left (static_names x) (flat_map static_names cs) g p (ap (λ (y : ClassParts). place_of_field (static_names y) g) same ∙ h)
    ∙ ap Some (let same : p ≡ 0 + p = omega arith in same)
static_place (x ∷ cs) (suc k) c g p e others h =
    place_right (static_names x) (flat_map static_names cs) g _ (other_class x (filter (λ f. is_static f.flags) x.fields) g (others 0 x refl))
    (static_place cs k c g p e (λ j y at. others (suc j) y at) h)
    ∙ ap Some (let same : length (static_names x) + (length (flat_map static_names (take k cs)) + p)
    ≡ length (static_names x ++ flat_map static_names (take k cs)) + p = omega (
      arith,
      length-append (static_names x) (flat_map static_names
          (take k cs)),
    ) in same)
