-- No two fields of an instance have one place.
use Rattle.std.proofs.Common.{◌≡◌, ℕ, zero, suc, ◌+◌, ◌<◌, List, [], ◌∷◌, Option, Some, None, Bool, true, false, ◌&&◌, length}
use Rattle.std.proofs.Common.{refl, sym, ◌∙◌, ap, subst, arith, slice_get, nat_eq, eq-eqb, eqb-true}
use Rattle.std.specs.Prelude.{is_some, option_map}
use Rattle.std.proofs.lemmas.Option.{same_Some}
use Rattle.std.proofs.lemmas.Cmp.{nat_list_eq_equiv}
use Rattle.jm_program.specs.Names.{same_text}
use Rattle.jm_program.specs.Descriptors.{base_letter}
use Rattle.jm_program.specs.Flags.{is_static}
use Rattle.jm_program.specs.declared.class.ClassParts.{ClassParts}
use Rattle.jm_program.specs.declared.class.Field.{Field}
use Rattle.jm_program.specs.declared.descriptor.ElementType.{ElementType}
use Rattle.jm_program.specs.declared.descriptor.ElementType.TheVariants.{Base, Class}
use Rattle.jm_program.specs.declared.descriptor.FieldType.{FieldType}
use Rattle.jm_program.proofs.Truths.{both_true as both}
use Rattle.jm_program.proofs.Texts.{text_is}
use Rattle.jm_world.specs.Classes.{FoundField}
use Rattle.jm_world.specs.Fields.{name_of_field}
use Rattle.jm_world.specs.Loads.{duplicate_fields}
use Rattle.jm_world.specs.Objects.{FieldName, instance_fields, place_of_field, same_field}
use Rattle.jm_world.specs.Types.{same_element, same_type}
use Rattle.jm_world.proofs.Comparing.{type_itself}
use Rattle.jm_tables.specs.declared.extent.DeclaredFields.{DeclaredFields}
use Rattle.jm_tables.specs.declared.layout.FieldSlot.{FieldSlot}
use Rattle.jm_tables.specs.declared.layout.FieldSlot.TheVariants.{Instance, Static}
use Rattle.jm_tables.specs.Layouts.{AreFields, IsFieldNumber, IsLayout, LayoutView, StandsInChain, classes_of, slot_at, static_fields}
use Rattle.jm_tables.specs.Numbering.{name_of}
use Rattle.jm_tables.proofs.LayoutLaws.{class_at, class_within, there}
use Rattle.jm_tables.proofs.PlaceLaws.{first_apart, further, rest_apart}

element_alike : (z x y : ElementType) → same_element z x ≡ true → same_element z y ≡ true → same_element x y ≡ true
element_alike (Base c) (Base a) (Base b) e h =
    eq-eqb (base_letter a) (base_letter b) (sym (eqb-true (base_letter c) (base_letter a) e) ∙ eqb-true (base_letter c) (base_letter b) h)
element_alike (Class c) (Class a) (Class b) e h =
    ap (same_text a) (sym (text_is c b h)) ∙ ap (λ x. same_text x c) (sym (text_is c a e)) ∙ nat_list_eq_equiv.refl c
element_alike (Base c) (Class a) y e h = cc
element_alike (Class c) (Base a) y e h = cc
element_alike (Base c) (Base a) (Class b) e h = cc
element_alike (Class c) (Class a) (Base b) e h = cc

type_alike : (z x y : FieldType) → same_type z x ≡ true → same_type z y ≡ true → same_type x y ≡ true
type_alike z x y e h =
    let a = both (nat_eq z.dimensions x.dimensions) (same_element z.element x.element) e in
    let b = both (nat_eq z.dimensions y.dimensions) (same_element z.element y.element) h in
    ap (λ t. t && same_element x.element y.element)
    (eq-eqb x.dimensions y.dimensions (sym (eqb-true z.dimensions x.dimensions a.0) ∙ eqb-true z.dimensions y.dimensions b.0))
    ∙ element_alike z.element x.element y.element a.1 b.1

record IsSame (a b : FieldName) : Type 0 where
  name : a.name ≡ b.name
  class : a.class ≡ b.class
  type : same_type a.type b.type ≡ true

same_parts : (a b : FieldName) → same_field a b ≡ true → IsSame a b
same_parts a b e = by (same_text a.name b.name) refl (same_text a.class b.class) refl e
  where
    by : (p : Bool) → same_text a.name b.name ≡ p → (q : Bool) → same_text a.class b.class ≡ q
        → (elim p as (λ _. Bool) [ true ↦ elim q as (λ _. Bool) [ true ↦ same_type a.type b.type | false ↦ false ] | false ↦ false ]) ≡ true → IsSame a b
    by true x true y h = record { name = text_is a.name b.name x; class = text_is a.class b.class y; type = h }
    by true x false y h = cc
    by false x q y h = cc

-- names at one place are the same
one_name : (gs : List FieldName) (x y : FieldName) (p : ℕ) → place_of_field gs x ≡ Some p → place_of_field gs y ≡ Some p → IsSame x y
one_name [] x y p e h = cc
one_name (g ∷ gs) x y p e h = by (λ q a b. one_name gs x y q a b) (same_field g x) refl (same_field g y) refl e h
  where
    never : (o : Option ℕ) → 0 ≡ p → further o ≡ Some p → ⊥
    never None z f = cc
    never (Some k) z f = let same : k + 1 ≡ p = (let some : Some (k + 1) ≡ Some p = f in cc) in omega (arith, z, same)

    deeper : (o : Option ℕ) → further o ≡ Some p → (q : ℕ) × (o ≡ Some q) × (q + 1 ≡ p)
    deeper None f = cc
    deeper (Some k) f = (k, refl, (let some : Some (k + 1) ≡ Some p = f in cc))

    by : ((q : ℕ) → place_of_field gs x ≡ Some q → place_of_field gs y ≡ Some q → IsSame x y) → (s : Bool) → same_field g x ≡ s → (t : Bool)
        → same_field g y ≡ t
        → (elim s as (λ _. Option ℕ) [ true ↦ Some 0 | false ↦ further (place_of_field gs x) ]) ≡ Some p
        → (elim t as (λ _. Option ℕ) [ true ↦ Some 0 | false ↦ further (place_of_field gs y) ]) ≡ Some p → IsSame x y
    by later true a true b e h =
        let u = same_parts g x a in let v = same_parts g y b in
        record { name = sym u.name ∙ v.name; class = sym u.class ∙ v.class; type = type_alike g.type x.type y.type u.type v.type }
    by later true a false b e h = absurd (never (place_of_field gs y) (let same : Some 0 ≡ Some p = e in cc) h)
    by later false a true b e h = absurd (never (place_of_field gs x) (let same : Some 0 ≡ Some p = h in cc) e)
    by later false a false b e h =
        let u = deeper (place_of_field gs x) e in let v = deeper (place_of_field gs y) h in
        let last = u.2 in let end = v.2 in let same : v.0 ≡ u.0 = omega (arith, last, end) in
        later u.0 u.1 (v.1 ∙ ap Some same)

-- a class has one field of a name and a type
one_index : (seen fs : List Field) (i j : ℕ) (f g : Field) → duplicate_fields seen fs ≡ None → slice_get fs i ≡ Some f → slice_get fs j ≡ Some g
    → f.name ≡ g.name → same_type f.descriptor g.descriptor ≡ true → i ≡ j
one_index seen [] i j f g none e h n t = cc
one_index seen (x ∷ fs) zero zero f g none e h n t = refl
one_index seen (x ∷ fs) zero (suc j) f g none e h n t =
    let same : x ≡ f = (let some : Some x ≡ Some f = e in cc) in
    absurd (clash (same_text x.name g.name) (same_type x.descriptor g.descriptor)
    (ap (λ (y : Field). same_text y.name g.name) same ∙ ap (λ m. same_text m g.name) n ∙ nat_list_eq_equiv.refl g.name)
    (ap (λ (y : Field). same_type y.descriptor g.descriptor) same ∙ t) (first_apart seen fs x j g (rest_apart seen x fs none) h))
  where
    clash : (a b : Bool) → a ≡ true → b ≡ true → (a && b) ≡ false → ⊥
    clash true true p q r = cc
    clash true false p q r = cc
    clash false b p q r = cc
one_index seen (x ∷ fs) (suc i) zero f g none e h n t =
    let same : x ≡ g = (let some : Some x ≡ Some g = h in cc) in
    absurd (clash (same_text x.name f.name) (same_type x.descriptor f.descriptor)
    (ap (λ (y : Field). same_text y.name f.name) same ∙ ap (same_text g.name) n ∙ nat_list_eq_equiv.refl g.name)
    (ap (λ (y : Field). same_type y.descriptor f.descriptor) same ∙ type_alike f.descriptor g.descriptor f.descriptor t (type_itself f.descriptor))
    (first_apart seen fs x i f (rest_apart seen x fs none) e))
  where
    clash : (a b : Bool) → a ≡ true → b ≡ true → (a && b) ≡ false → ⊥
    clash true true p q r = cc
    clash true false p q r = cc
    clash false b p q r = cc
one_index seen (x ∷ fs) (suc i) (suc j) f g none e h n t = ap suc (one_index (x ∷ seen) fs i j f g (rest_apart seen x fs none) e h n t)

module _ (program : List ClassParts) (names : List (List ℕ)) (classes : List DeclaredFields) (layout : LayoutView) (are : AreFields program names classes)
    (is : IsLayout program names layout) where
  -- the place of an instance field in the model
  model_place : (a i below place : ℕ) (f : FoundField) → IsFieldNumber program a i f → below < length names
      → StandsInChain program (name_of names below) f.class
      → slot_at layout a i ≡ Some (Instance place) → place_of_field (instance_fields program (name_of names below)) (name_of_field f) ≡ Some place
  model_place a i below place f at small stands e = by (is_static f.field.flags) refl
    where
      instance : (o : Option ℕ) → option_map Instance o ≡ Some (Instance place) → o ≡ Some place
      instance None h = cc
      instance (Some k) h = let same : Some (Instance k) ≡ Some (Instance place) = h in let number : k ≡ place = cc in ap Some number

      static : (o : Option ℕ) → option_map Static o ≡ Some (Instance place) → ⊥
      static None h = cc
      static (Some k) h = cc

      by : (t : Bool) → is_static f.field.flags ≡ t → place_of_field (instance_fields program (name_of names below)) (name_of_field f) ≡ Some place
      by true t = absurd (static (place_of_field (static_fields program) (name_of_field f)) (sym (is.numbers a i f at t) ∙ e))
      by false t = instance (place_of_field (instance_fields program (name_of names below)) (name_of_field f)) (sym (is.places a i below f at t small stands)
          ∙ e)

  pub one_place : (a i b j below place : ℕ) (f g : FoundField) → IsFieldNumber program a i f → IsFieldNumber program b j g → below < length names
      → StandsInChain program (name_of names below) f.class → StandsInChain program (name_of names below) g.class
      → slot_at layout a i ≡ Some (Instance place) → slot_at layout b j ≡ Some (Instance place) → (a ≡ b) × (i ≡ j)
  one_place a i b j below place f g x y small s t e h =
      let same = one_name (instance_fields program (name_of names below)) (name_of_field f) (name_of_field g) place (model_place a i below place f x small s e)
      (model_place b j below place g y small t h) in
      let la = class_within program names classes are a f.class x.class_is in
      let lb = class_within program names classes are b g.class y.class_is in
      let da = there classes a la in
      let db = there classes b lb in
      let pa = are.each a da.0 da.1 in
      let pb = are.each b db.0 db.1 in
      let ca : f.class ≡ pa.parts = class_at program names classes are a da.0 da.1 f.class x.class_is in
      let cb : g.class ≡ pb.parts = class_at program names classes are b db.0 db.1 g.class y.class_is in
      let named : name_of names a ≡ name_of names b =
      sym (ap (λ (c : ClassParts). c.name) ca ∙ pa.name) ∙ same.class ∙ ap (λ (c : ClassParts). c.name) cb ∙ pb.name in
      let class : a ≡ b = eqb-true a b (sym (are.named.apart a b (omega (arith, la, are.many)) (omega (arith, lb, are.many)))
      ∙ ap (same_text (name_of names a)) (sym named) ∙ nat_list_eq_equiv.refl (name_of names a)) in
      let one_class : f.class ≡ g.class = same_Some _ _ (sym x.class_is ∙ ap (slice_get (classes_of program)) class ∙ y.class_is) in (
        class,
        one_index [] f.class.fields i j f.field g.field (ap (λ (c : ClassParts). duplicate_fields [] c.fields) ca ∙ pa.apart) x.field_is
            (ap (λ (c : ClassParts). slice_get c.fields j) one_class ∙ y.field_is) same.name same.type,
      )
