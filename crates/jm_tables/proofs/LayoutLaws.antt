-- What is laid out is what the model says.
use Rattle.std.proofs.Common.{◌≡◌, ℕ, zero, suc, ◌+◌, ◌<◌, ◌≤◌, ◌⊎◌, inl, inr, List, [], ◌∷◌, ◌++◌, Option, Some, None, Bool, true, false, length, take, drop}
use Rattle.std.proofs.Common.{reverse, map, not, get_or}
use Rattle.std.proofs.Common.{refl, sym, ◌∙◌, ap, subst, arith, slice_get, append-nil, length-append, nat_eq, eqb-true, take_all}
use Rattle.std.specs.Prelude.{option_map}
use Rattle.std.proofs.lemmas.Bool.{cases_lt}
use Rattle.std.specs.List.{filter, flat_map}
use Rattle.std.proofs.lemmas.List.{map-append, length-map}
use Rattle.std.proofs.lemmas.List.Concat.{flat_map-append}
use Rattle.std.proofs.lemmas.Option.{slice_get_within, slice_get_past, same_Some}
use Rattle.jm_program.specs.Names.{same_text}
use Rattle.jm_program.specs.Flags.{is_static}
use Rattle.jm_program.specs.declared.class.ClassParts.{ClassParts}
use Rattle.jm_program.specs.declared.class.Field.{Field}
use Rattle.jm_program.proofs.Texts.{text_is}
use Rattle.jm_builtins.specs.List.{the_builtins}
use Rattle.jm_world.specs.Classes.{FoundField, as_class, height}
use Rattle.jm_world.specs.Fields.{name_of_field}
use Rattle.jm_world.specs.Hierarchy.{up_from, chain}
use Rattle.jm_world.specs.Loading.{out_field, statics_of_class}
use Rattle.jm_world.specs.Types.{default_value}
use Rattle.jm_world.specs.World.{Static as Static_}
use Rattle.jm_world.specs.Objects.{FieldName, field_names, own_instance_fields, instance_fields, place_of_field}
use Rattle.jm_tables.specs.declared.extent.DeclaredFields.{DeclaredFields}
use Rattle.jm_tables.specs.declared.extent.Extent.{Extent}
use Rattle.jm_tables.specs.declared.layout.ClassLayout.{ClassLayout}
use Rattle.jm_tables.specs.declared.layout.FieldSlot.{FieldSlot}
use Rattle.jm_tables.specs.declared.layout.FieldSlot.TheVariants.{Instance, Static}
use Rattle.jm_tables.specs.Extents.{own_count, IsExtent, AreExtents}
use Rattle.jm_tables.specs.Layouts.{LayoutView, DeclaresFields, AreFields, IsFieldNumber, IsLaidOut, IsLayout, IsRow, StandsInChain, classes_of, slot_at}
use Rattle.jm_tables.specs.Layouts.{size_at, slots_from, static_fields, statics_among, statics_of}
use Rattle.jm_tables.specs.Numbering.{name_of}
use Rattle.jm_tables.proofs.ExtentLaws.{extent_more}
use Rattle.jm_tables.proofs.ListedLaws.{listed_at, listed_found, slots_long}
use Rattle.jm_tables.proofs.PlaceLaws.{fields_down, fields_are, as_many_names, place_right, place_up, AreOthers, not_in_others, named_field}
use Rattle.jm_tables.proofs.PlaceLaws.{own_place, static_names, static_place}
use Rattle.jm_tables.proofs.SlotLaws.{slot_behind, slot_found, statics_counted}

pub short_drop : (k : ℕ) (cs : List ClassParts) → length (drop k cs) ≤ length cs
short_drop zero cs = omega arith
short_drop (suc k) [] = omega arith
short_drop (suc k) (c ∷ cs) = omega (arith, short_drop k cs)

pub there : {A : Type 0} → (xs : List A) (n : ℕ) → n < length xs → (x : A) × (slice_get xs n ≡ Some x)
there [] n h = absurd (omega (arith, h))
there (x ∷ xs) zero h = (x, refl)
there (x ∷ xs) (suc n) h = there xs n (omega (arith, h))

among_first : (cs : List ClassParts) (k j : ℕ) (c : ClassParts) → slice_get (take k cs) j ≡ Some c → (j < k) × (slice_get cs j ≡ Some c)
among_first cs zero j c e = cc
among_first [] (suc k) j c e = cc
among_first (x ∷ cs) (suc k) zero c e = (omega arith, e)
among_first (x ∷ cs) (suc k) (suc j) c e = let h = among_first cs k j c e in (omega (arith, h.0), h.1)

-- the statics of the model's first world are the static fields of all classes
statics_named : (xs : List FieldName) → map (λ (s : Static_). s.field) (map (λ
    (f : FieldName). let it : Static_ = record { field = f; value = default_value f.type } in it) xs) ≡ xs
statics_named [] = refl
statics_named (x ∷ xs) = ap (λ ys. x ∷ ys) (statics_named xs)

statics_along : (cs : List ClassParts) → map (λ (s : Static_). s.field) (flat_map statics_of_class cs) ≡ flat_map static_names cs
statics_along [] = refl
statics_along (c ∷ cs) =
    map-append (λ (s : Static_). s.field) (statics_of_class c) (flat_map statics_of_class cs)
    ∙ ap (λ xs. xs ++ map (λ (s : Static_). s.field) (flat_map statics_of_class cs)) (statics_named (static_names c))
    ∙ ap (λ xs. static_names c ++ xs) (statics_along cs)

built_in_statics : flat_map static_names (map as_class the_builtins) ≡ out_field ∷ []
built_in_statics = refl

pub static_fields_are : (program : List ClassParts) → static_fields program ≡ flat_map static_names (classes_of program)
static_fields_are program =
    ap (λ xs. out_field ∷ xs) (statics_along program)
    ∙ sym (flat_map-append static_names (map as_class the_builtins) program ∙ ap (λ xs. xs ++ flat_map static_names program) built_in_statics)

module _ (program : List ClassParts) (names : List (List ℕ)) (classes : List DeclaredFields) (are : AreFields program names classes) where
  -- the classes from a class up, over at most so many
  abbrev pub up : ℕ → ℕ → List ClassParts
  up n class = up_from n program (name_of names class)

  abbrev pub rest : ℕ → Option ℕ → List ClassParts
  rest n None = []
  rest n (Some s) = up n s

  -- what IsExtent says of a superclass
  abbrev Above : ℕ → Option ℕ → ℕ → Type 0
  Above n None inherited = inherited ≡ 0
  Above n (Some s) inherited = (above : Extent) × IsExtent n classes s above × (inherited ≡ above.size)

  above_of : (n : ℕ) (s : Option ℕ) (inherited : ℕ)
      → (elim s as (λ _. Type 0) [ None ↦ inherited ≡ 0 | Some s ↦ (above : Extent) × IsExtent n classes s above × (inherited ≡ above.size) ])
      → Above n s inherited
  above_of n None inherited h = h
  above_of n (Some s) inherited h = h

  pub up_one : (n class : ℕ) (d : DeclaredFields) (is : slice_get classes class ≡ Some d)
      → up (suc n) class ≡ (are.each class d is).parts ∷ rest n d.superclass
  up_one n class d is =
      let p = are.each class d is in
      ap (λ o. elim o as (λ _. List ClassParts)
      [ None ↦ [] | Some c ↦ elim c.superclass as (λ _. List ClassParts) [ None ↦ c ∷ [] | Some s ↦ c ∷ up_from n program s ] ]) p.named
      ∙ ap (λ o. elim o as (λ _. List ClassParts) [ None ↦ p.parts ∷ [] | Some s ↦ p.parts ∷ up_from n program s ]) (sym p.superclass)
      ∙ by p.parts d.superclass
    where
      by : (c : ClassParts) (s : Option ℕ) → (elim (option_map (name_of names) s) as (λ _. List ClassParts) [
        | None ↦ c ∷ []
        | Some s ↦ c ∷ up_from n program s
      ]) ≡ c ∷ rest n s
      by c None = refl
      by c (Some s) = refl

  settled_rest : (n m : ℕ) (s : Option ℕ) (inherited : ℕ) → ((k : ℕ) (e : Extent) → IsExtent n classes k e → up m k ≡ up n k) → Above n s inherited
      → rest m s ≡ rest n s
  settled_rest n m None inherited h a = refl
  settled_rest n m (Some s) inherited h a = h s a.0 a.1

  -- more steps up make no difference
  settled : (n m class : ℕ) (e : Extent) → IsExtent n classes class e → n ≤ m → up m class ≡ up n class
  unfolding IsExtent
  settled zero m class e h l = absurd h
  settled (suc n) zero class e h l = absurd (omega (arith, l))
  settled (suc n) (suc m) class e h l =
      up_one m class h.0 h.1
      ∙ ap (λ (cs : List ClassParts). (are.each class h.0 h.1).parts ∷ cs)
      (settled_rest n m h.0.superclass e.inherited (λ k x i. settled n m k x i (omega (arith, l))) (above_of n h.0.superclass e.inherited h.3))
      ∙ sym (up_one n class h.0 h.1)

  inherited_fields : (n : ℕ) (s : Option ℕ) (inherited : ℕ) → ((k : ℕ) (e : Extent) → IsExtent n classes k e → length (fields_down (up n k)) ≡ e.size)
      → Above n s inherited → length (fields_down (rest n s)) ≡ inherited
  inherited_fields n None inherited h a = sym a
  inherited_fields n (Some s) inherited h a = h s a.0 a.1 ∙ sym a.2

  -- how many fields an instance has
  fields_counted : (n class : ℕ) (e : Extent) → IsExtent n classes class e → length (fields_down (up n class)) ≡ e.size
  unfolding IsExtent
  fields_counted zero class e h = absurd h
  fields_counted (suc n) class e h =
      let p = are.each class h.0 h.1 in
      let above : length (fields_down (rest n h.0.superclass)) ≡ e.inherited = inherited_fields n h.0.superclass e.inherited
      (λ k x i. fields_counted n k x i) (above_of n h.0.superclass e.inherited h.3) in
      let own : length (own_instance_fields p.parts) ≡ own_count h.0.fields.now = as_many_names p.parts (filter (λ f. not (is_static f.flags)) p.parts.fields)
      ∙ ap own_count (sym p.fields) in
      ap (λ cs. length (fields_down cs)) (up_one n class h.0 h.1) ∙ length-append (fields_down (rest n h.0.superclass)) (own_instance_fields p.parts)
      ∙ (let size = h.2 in let sum : length (fields_down (rest n h.0.superclass)) + length (own_instance_fields p.parts)
      ≡ e.size = omega (arith, above, own, size) in sum)

  -- where a class stands in a chain, its own chain begins
  chain_from : (n m class : ℕ) (e : Extent) → IsExtent n classes class e → n ≤ m → (k : ℕ) (c : ClassParts) → slice_get (up m class) k ≡ Some c
      → (j : ℕ) → m ≤ j → drop k (up m class) ≡ up_from j program c.name
  unfolding IsExtent
  chain_from zero m class e h l k c at j g = absurd h
  chain_from (suc n) zero class e h l k c at j g = absurd (omega (arith, l))
  chain_from (suc n) (suc m) class e h l zero c at j g =
      let p = are.each class h.0 h.1 in
      let same : Some p.parts ≡ Some c = sym (ap (λ cs. slice_get cs 0) (up_one m class h.0 h.1)) ∙ at in
      let is : p.parts ≡ c = cc in
      settled (suc n) (suc m) class e h l ∙ sym (settled (suc n) j class e h (omega (arith, l, g)))
      ∙ ap (up_from j program) (sym p.name ∙ ap (λ (x : ClassParts). x.name) is)
  chain_from (suc n) (suc m) class e h l (suc k) c at j g =
      ap (drop (suc k)) (up_one m class h.0 h.1)
      ∙ by (λ i x a f. chain_from n m i x a (omega (arith, l)) k c f j (omega (arith, g))) h.0.superclass (above_of n h.0.superclass e.inherited h.3)
      (sym (ap (λ cs. slice_get cs (suc k)) (up_one m class h.0 h.1)) ∙ at)
    where
      by : ((i : ℕ) (x : Extent) → IsExtent n classes i x → slice_get (up m i) k ≡ Some c → drop k (up m i) ≡ up_from j program c.name)
          → (s : Option ℕ) → Above n s e.inherited → slice_get (rest m s) k ≡ Some c → drop k (rest m s) ≡ up_from j program c.name
      by more None a f = cc
      by more (Some s) a f = more s a.0 a.1 f

  -- no class stands above itself
  others_above : (n class : ℕ) (e : Extent) (h : IsExtent (suc n) classes class e) (d : DeclaredFields) (is : slice_get classes class ≡ Some d)
      → AreOthers (rest n d.superclass) (name_of names class)
  unfolding IsExtent
  others_above n class e h d is = λ k c at. by k c at (same_text c.name (name_of names class)) refl
    where
      same : h.0 ≡ d
      same = let some : Some h.0 ≡ Some d = sym h.1 ∙ is in cc

      above : Above n d.superclass e.inherited
      above = subst (λ (x : DeclaredFields). Above n x.superclass e.inherited) same (above_of n h.0.superclass e.inherited h.3)

      from : (k : ℕ) (c : ClassParts) (s : Option ℕ) → Above n s e.inherited → slice_get (rest n s) k ≡ Some c
          → drop k (rest n s) ≡ up_from (suc n) program c.name
      from k c None a f = cc
      from k c (Some s) a f = chain_from n n s a.0 a.1 (omega arith) k c f (suc n) (omega arith)

      by : (k : ℕ) (c : ClassParts) → slice_get (rest n d.superclass) k ≡ Some c → (t : Bool) → same_text c.name (name_of names class) ≡ t → t ≡ false
      by k c at false e = refl
      by k c at true e =
          let long : length (drop k (rest n d.superclass)) ≡ suc (length (rest n d.superclass)) =
          ap length (from k c d.superclass above at ∙ ap (up_from (suc n) program) (text_is c.name (name_of names class) e) ∙ up_one n class d is) in
          absurd (omega (arith, long, short_drop k (rest n d.superclass)))

  -- the place of an instance field in the instances of its class
  place_in_own : (n class : ℕ) (e : Extent) (h : IsExtent (suc n) classes class e) (d : DeclaredFields) (is : slice_get classes class
      ≡ Some d) (i : ℕ) (f : Field)
      → slice_get d.fields.now i ≡ Some f → is_static f.flags ≡ false
      → place_of_field (fields_down (up (suc n) class)) (named_field (are.each class d is).parts f) ≡ Some (e.inherited + own_count (take i d.fields.now))
  unfolding IsExtent
  place_in_own n class e h d is i f at instance =
      let p = are.each class d is in
      let same : h.0 ≡ d = (let some : Some h.0 ≡ Some d = sym h.1 ∙ is in cc) in
      let above : Above n d.superclass e.inherited = subst (λ (x : DeclaredFields). Above n x.superclass e.inherited) same
      (above_of n h.0.superclass e.inherited h.3) in
      let count : length (fields_down (rest n d.superclass))
      ≡ e.inherited = inherited_fields n d.superclass e.inherited (λ k x a. fields_counted n k x a) above in
      let others : AreOthers (rest n d.superclass) p.parts.name = subst (AreOthers (rest n d.superclass)) (sym p.name) (others_above n class e h d is) in
      ap (λ cs. place_of_field (fields_down cs) (named_field p.parts f)) (up_one n class d is)
      ∙ place_right (fields_down (rest n d.superclass)) (own_instance_fields p.parts) (named_field p.parts f) (own_count (take i d.fields.now))
      (not_in_others (rest n d.superclass) (named_field p.parts f) others)
      (own_place (λ f. not (is_static f.flags)) p.parts [] p.parts.fields i f p.apart (ap (λ fs. slice_get fs i) (sym p.fields) ∙ at) (ap not instance)
      ∙ ap (λ fs. Some (own_count (take i fs))) (sym p.fields))
      ∙ ap (λ k. Some (k + own_count (take i d.fields.now))) count

  -- the classes by number, with their names
  pub class_at : (class : ℕ) (d : DeclaredFields) (is : slice_get classes class ≡ Some d) (c : ClassParts) → slice_get (classes_of program) class ≡ Some c
      → c ≡ (are.each class d is).parts
  class_at class d is c at = let p = are.each class d is in let same : Some c ≡ Some p.parts = sym at ∙ p.numbered in cc

  -- as many static fields come before
  counted : (ds : List DeclaredFields) (cs : List ClassParts) (b k : ℕ)
      → ((j : ℕ) (d : DeclaredFields) → slice_get ds j ≡ Some d → (c : ClassParts) × (slice_get cs j ≡ Some c) × (d.fields.now ≡ c.fields))
      → k ≤ length ds → length (statics_of b (take k ds)) ≡ length (flat_map static_names (take k cs))
  counted ds cs b zero each l = refl
  counted [] cs b (suc k) each l = absurd (omega (arith, l))
  counted (d ∷ ds) [] b (suc k) each l = let none : None ≡ Some (each 0 d refl).0 = (each 0 d refl).1 in cc
  counted (d ∷ ds) (c ∷ cs) b (suc k) each l =
      let first = each 0 d refl in
      let is : c ≡ first.0 = (let same : Some c ≡ Some first.0 = first.1 in cc) in
      let own : length (statics_among b 0 d.fields.now) ≡ length (static_names c) = statics_counted b 0 d.fields.now
      ∙ ap (λ fs. length (filter (λ f. is_static f.flags) fs)) (first.2 ∙ ap (λ (x : ClassParts). x.fields) (sym is))
      ∙ sym (as_many_names c (filter (λ f. is_static f.flags) c.fields)) in
      let later : length (statics_of (b + 1) (take k ds)) ≡ length (flat_map static_names (take k cs)) =
      counted ds cs (b + 1) k (λ j x e. each (suc j) x e) (omega (arith, l)) in
      length-append (statics_among b 0 d.fields.now) (statics_of (b + 1) (take k ds))
      ∙ (let sum : length (statics_among b 0 d.fields.now) + length (statics_of (b + 1) (take k ds))
      ≡ length (static_names c) + length (flat_map static_names (take k cs))
      = omega (arith, own, later) in sum)
      ∙ sym (length-append (static_names c) (flat_map static_names (take k cs)))

  pub class_within : (class : ℕ) (c : ClassParts) → slice_get (classes_of program) class ≡ Some c → class < length classes
  class_within class c at =
      let long = length-append (map as_class the_builtins) program in
      let many = length-map the_builtins as_class in
      omega (arith, are.many, are.named.many, long, many, slice_get_within (classes_of program) class c at)

  -- the classes of earlier numbers have other names
  others_before : (class : ℕ) (d : DeclaredFields) (is : slice_get classes class ≡ Some d)
      → AreOthers (take class (classes_of program)) (are.each class d is).parts.name
  others_before class d is = λ j c at.
      let first = among_first (classes_of program) class j c at in
      let less : j < class = first.0 in
      let within : class < length classes = slice_get_within classes class d is in
      let x = there classes j (omega (arith, less, within)) in
      let same : c.name ≡ name_of names j = ap (λ (y : ClassParts). y.name) (class_at j x.0 x.1 c first.1) ∙ (are.each j x.0 x.1).name in
      ap (λ m. same_text m (are.each class d is).parts.name) same ∙ ap (same_text (name_of names j)) (are.each class d is).name
      ∙ are.named.apart j class (omega (arith, less, within, are.many)) (omega (arith, within, are.many)) ∙ by j less (nat_eq j class) refl
    where
      by : (j : ℕ) → j < class → (t : Bool) → nat_eq j class ≡ t → t ≡ false
      by j less true e = let same = eqb-true j class e in absurd (omega (arith, less, same))
      by j less false e = refl

  fields_of_classes : (j : ℕ) (d : DeclaredFields) → slice_get classes j ≡ Some d
      → (c : ClassParts) × (slice_get (classes_of program) j ≡ Some c) × (d.fields.now ≡ c.fields)
  fields_of_classes j d is = let p = are.each j d is in (p.parts, p.numbered, p.fields)

  -- the number of a static field
  place_among_statics : (class : ℕ) (d : DeclaredFields) (is : slice_get classes class ≡ Some d) (i : ℕ) (f : Field) → slice_get d.fields.now i ≡ Some f
      → is_static f.flags ≡ true
      → place_of_field (static_fields program) (named_field (are.each class d is).parts f)
      ≡ Some (length (statics_of 0 (take class classes)) + length (filter (λ f. is_static f.flags) (take i d.fields.now)))
  place_among_statics class d is i f at static =
      let p = are.each class d is in
      let within : class < length classes = slice_get_within classes class d is in
      ap (λ xs. place_of_field xs (named_field p.parts f)) (static_fields_are program)
      ∙ static_place (classes_of program) class p.parts (named_field p.parts f) (length (filter (λ f. is_static f.flags) (take i p.parts.fields))) p.numbered
      (others_before class d is)
      (own_place (λ f. is_static f.flags) p.parts [] p.parts.fields i f p.apart (ap (λ fs. slice_get fs i) (sym p.fields) ∙ at) static)
      ∙ ap (λ k. Some (k + length (filter (λ f. is_static f.flags) (take i p.parts.fields))))
      (sym (counted classes (classes_of program) 0 class fields_of_classes (omega (arith, within))))
      ∙ ap (λ fs. Some (length (statics_of 0 (take class classes)) + length (filter (λ f. is_static f.flags) (take i fs)))) (sym p.fields)

  pub instance_are : (class : ℕ) → instance_fields program (name_of names class) ≡ fields_down (up (length classes) class)
  unfolding instance_fields chain
  instance_are class = fields_are (up_from (height program) program (name_of names class))
      ∙ ap (λ n. fields_down (up_from n program (name_of names class))) (sym (are.many ∙ are.named.many))

  in_chain : (class k : ℕ) (c : ClassParts) → slice_get (chain program (name_of names class)) k ≡ Some c → slice_get (up (length classes) class) k ≡ Some c
  unfolding chain
  in_chain class k c at = ap (λ n. slice_get (up_from n program (name_of names class)) k) (are.many ∙ are.named.many) ∙ at

  module _ (extents : List (Option Extent)) (layout : LayoutView) (known : AreExtents (length classes) classes extents)
      (laid : IsLaidOut classes extents layout) where
    extent_known : (class : ℕ) (less : class < length classes) → IsExtent (length classes) classes class (laid.rows class less).extent
    unfolding AreExtents
    extent_known class less = known class (laid.rows class less).extent (laid.rows class less).extent_is

    slot_known : (class i : ℕ) (less : class < length classes) (f : Field) → slice_get (laid.rows class less).declared.fields.now i ≡ Some f
        → slot_at layout class i ≡ Some (slot_behind (laid.rows class less).extent.inherited (length (statics_of 0 (take class classes)))
        (take i (laid.rows class less).declared.fields.now) (is_static f.flags))
    slot_known class i less f at =
        let row = laid.rows class less in
        ap (λ o. elim o as (λ _. Option FieldSlot) [ None ↦ None | Some c ↦ slice_get c.slots i ]) row.row
        ∙ slot_found row.extent.inherited (length (statics_of 0 (take class classes))) row.declared.fields.now i f at

    field_known : (class i : ℕ) (less : class < length classes) (found : FoundField) → IsFieldNumber program class i found
        → slice_get (laid.rows class less).declared.fields.now i ≡ Some found.field
    field_known class i less found at =
        let row = laid.rows class less in
        let p = are.each class row.declared row.declared_is in
        ap (λ fs. slice_get fs i) (p.fields ∙ ap (λ (c : ClassParts). c.fields) (sym (class_at class row.declared row.declared_is found.class at.class_is)))
        ∙ at.field_is

    slot_listed : (class i n : ℕ) → slot_at layout class i ≡ Some (Static n) → slice_get layout.statics n ≡ Some (record { class = class; field = i })
    slot_listed class i n e = by (cases_lt class (length classes)) e
      where
        of_slot : (place number : ℕ) (fs : List Field) (b : Bool) → slot_behind place number fs b ≡ Static n
            → (b ≡ true) × (number + length (filter (λ f. is_static f.flags) fs) ≡ n)
        of_slot place number fs true h = (refl, (let same : Static (number + length (filter (λ f. is_static f.flags) fs)) ≡ Static n = h in cc))
        of_slot place number fs false h = cc

        by : (class < length classes) ⊎ (length classes ≤ class) → slot_at layout class i ≡ Some (Static n)
            → slice_get layout.statics n ≡ Some (record { class = class; field = i })
        by (inl less) e =
            let row = laid.rows class less in
            let slots = slots_from row.extent.inherited (length (statics_of 0 (take class classes))) row.declared.fields.now in
            let at : slice_get slots i ≡ Some (Static n) = sym (ap (λ o. elim o as (λ _. Option FieldSlot) [
              | None ↦ None
              | Some c ↦ slice_get c.slots i
            ]) row.row) ∙ e in
            let f = there row.declared.fields.now i (omega (
              arith,
              slice_get_within slots i (Static n) at,
              slots_long row.extent.inherited (length (statics_of 0 (take class classes))) row.declared.fields.now,
            )) in
            let found = slot_found row.extent.inherited (length (statics_of 0 (take class classes))) row.declared.fields.now i f.0 f.1 in
            let same : slot_behind row.extent.inherited (length (statics_of 0 (take class classes))) (take i row.declared.fields.now) (is_static f.0.flags)
            ≡ Static n =
            same_Some _ _ (sym found ∙ at) in
            let parts = of_slot row.extent.inherited (length (statics_of 0 (take class classes))) (take i row.declared.fields.now) (is_static f.0.flags) same in
            ap (λ xs. slice_get xs n) laid.statics ∙ ap (slice_get (statics_of 0 classes)) (sym parts.1)
            ∙ listed_at 0 classes class row.declared i f.0 row.declared_is f.1 parts.0
            ∙ (let zero_is : 0 + class ≡ class = omega arith in ap (λ k. Some (record { class = k; field = i })) zero_is)
        by (inr past) e =
            let none : slice_get layout.classes class ≡ None = slice_get_past layout.classes class (omega (arith, past, laid.many)) in
            let no_slot : None ≡ Some (Static n) = sym (ap (λ o. elim o as (λ _. Option FieldSlot) [ None ↦ None | Some c ↦ slice_get c.slots i ]) none)
            ∙ e in cc

    listed_slot : (class i n : ℕ) → slice_get layout.statics n ≡ Some (record { class = class; field = i }) → slot_at layout class i ≡ Some (Static n)
    listed_slot class i n e =
        let a = listed_found 0 classes n (record { class = class; field = i }) (sym (ap (λ xs. slice_get xs n) laid.statics) ∙ e) in
        let at : a.k ≡ class = (let h = a.class_is in omega (arith, h)) in
        let is : slice_get classes class ≡ Some a.declared = ap (slice_get classes) (sym at) ∙ a.declared_is in
        let less : class < length classes = slice_get_within classes class a.declared is in
        let row = laid.rows class less in
        let same : a.declared ≡ row.declared = same_Some _ _ (sym is ∙ row.declared_is) in
        slot_known class i less a.field (ap (λ (d : DeclaredFields). slice_get d.fields.now i) (sym same) ∙ a.field_is)
        ∙ ap (λ b. Some (slot_behind row.extent.inherited (length (statics_of 0 (take class classes))) (take i row.declared.fields.now) b)) a.static
        ∙ ap (λ m. Some (Static m))
        (sym (a.number ∙ ap (λ k. length (statics_of 0 (take k classes)) + length (filter (λ f. is_static f.flags) (take i a.declared.fields.now))) at
        ∙ ap (λ (d : DeclaredFields). length (statics_of 0 (take class classes)) + length (filter (λ f. is_static f.flags) (take i d.fields.now))) same))

    pub is_layout : IsLayout program names layout
    is_layout = record {
      sizes = λ class small.
          let less : class < length classes = omega (arith, small, are.many) in
          let row = laid.rows class less in
          ap (option_map (λ (c : ClassLayout). c.size)) row.row
          ∙ ap Some (sym (ap length (instance_are class) ∙ fields_counted (length classes) class row.extent (extent_known class less)));
      places = λ class i below found at instance small stands.
          let less = class_within class found.class at.class_is in
          let row = laid.rows class less in
          let at_row = field_known class i less found at in
          let under : below < length classes = omega (arith, small, are.many) in
          let same = class_at class row.declared row.declared_is found.class at.class_is in
          let h = extent_more (length classes) classes class row.extent (extent_known class less) in
          let p = are.each class row.declared row.declared_is in
          let top : drop stands.0 (up (length classes) below) ≡ up (suc (length classes)) class =
          chain_from (length classes) (length classes) below (laid.rows below under).extent (extent_known below under) (omega arith) stands.0 found.class
          (in_chain below stands.0 found.class stands.1) (suc (length classes)) (omega arith)
          ∙ ap (up_from (suc (length classes)) program) (ap (λ (c : ClassParts). c.name) same ∙ p.name) in
          slot_known class i less found.field at_row
          ∙ ap (λ b. Some (slot_behind row.extent.inherited (length (statics_of 0 (take class classes))) (take i row.declared.fields.now) b)) instance
          ∙ ap (option_map Instance) (sym (ap (λ xs. place_of_field xs (name_of_field found)) (instance_are below)
          ∙ place_up (up (length classes) below) stands.0 (name_of_field found) (row.extent.inherited + own_count (take i row.declared.fields.now))
          (ap (λ cs. place_of_field (fields_down cs) (name_of_field found)) top
          ∙ ap (λ c. place_of_field (fields_down (up (suc (length classes)) class)) (named_field c found.field)) same
          ∙ place_in_own (length classes) class row.extent h row.declared row.declared_is i found.field at_row instance)));
      numbers = λ class i found at static.
          let less = class_within class found.class at.class_is in
          let row = laid.rows class less in
          let at_row = field_known class i less found at in
          let same = class_at class row.declared row.declared_is found.class at.class_is in
          slot_known class i less found.field at_row
          ∙ ap (λ b. Some (slot_behind row.extent.inherited (length (statics_of 0 (take class classes))) (take i row.declared.fields.now) b)) static
          ∙ ap (option_map Static) (sym (ap (λ c. place_of_field (static_fields program) (named_field c found.field)) same
          ∙ place_among_statics class row.declared row.declared_is i found.field at_row static));
      listed = λ class i n. (slot_listed class i n, listed_slot class i n);
    }
