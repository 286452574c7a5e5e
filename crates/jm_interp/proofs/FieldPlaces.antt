-- The places of fields by the numbers of classes: an object has a field where the field's class
-- stands in the chain of the object's (JVMS 2.4, 2.5.3, 4.1, 5.3.5).
use Rattle.std.proofs.Common.{◌≡◌, ℕ, zero, suc, ◌+◌, ◌<◌, ◌⊎◌, inl, inr, List, [], ◌∷◌, ◌++◌, Option, Some, None, Bool, true, false, refl, sym, ap, ◌∙◌, subst}
use Rattle.std.proofs.Common.{length, arith}
use Rattle.std.proofs.lemmas.List.{length-map, length-append}
use Rattle.std.specs.Prelude.{map, not, ◌&&◌, ◌||◌, is_some, nat_eq, option_map, option_to_list, slice_get, unwrap_or}
use Rattle.std.specs.List.{AllByRecursion, list_all}
use Rattle.jm_program.specs.Flags.{is_interface, is_static}
use Rattle.jm_program.specs.Names.{same_text}
use Rattle.jm_program.specs.declared.class.ClassParts.{ClassParts}
use Rattle.jm_program.specs.declared.flags.AccessFlags.{AccessFlags}
use Rattle.jm_program.proofs.Truths.{both_true as both, not_true, implied, right_false}
use Rattle.jm_program.proofs.Texts.{text_is}
use Rattle.jm_builtins.specs.List.{the_builtins}
use Rattle.jm_builtins.specs.declared.built_in.BuiltIn.{BuiltIn}
use Rattle.jm_values.proofs.Lists.{get_there}
use Rattle.jm_world.specs.Classes.{FoundField, as_class, built_in_named, class_among, class_named, height, object_class}
use Rattle.jm_world.specs.Fields.{name_of_field}
use Rattle.jm_world.specs.Hierarchy.{chain, holds_of_any, is_below, is_subclass, parents, up_from}
use Rattle.jm_world.specs.Loads.{Loads, refusal, wrong_kind, first_of_all, same_bool, is_sealed, is_strange_interface}
use Rattle.jm_world.specs.Loads.{superclass_of_kind, superclass_refusal, interface_of_kind, parents_refusal}
use Rattle.jm_world.specs.Objects.{instance_fields, place_of_field}
use Rattle.jm_world.proofs.Refusing.{not_refused, first_none, second_none}
use Rattle.jm_world.proofs.FoundAgain.{has_own_name}
use Rattle.jm_tables.specs.Layouts.{StandsInChain, slot_at, static_fields}
use Rattle.jm_tables.specs.Numbering.{name_of}
use Rattle.jm_tables.specs.declared.layout.FieldSlot.TheVariants.{Instance, Static}
use Rattle.jm_tables.proofs.PlaceLaws.{AreOthers, fields_are, not_in_others}
use Rattle.jm_linked.specs.Links.{LinkedView, IsLinked, IsFieldOf, class_name_of, class_numbered}
use Rattle.jm_linked.specs.Tables.{all_names}
use Rattle.jm_linked.specs.declared.instruction.MemberNumber.{MemberNumber}
use Rattle.jm_linked.proofs.BuiltIns.{built_in_class}
use Rattle.jm_linked.proofs.Classes.{left_false}
use Rattle.jm_linked.proofs.HeldTypes.{named_at, same_as}
use Rattle.jm_linked.proofs.Names.{found_numbered}
use Rattle.jm_interp.specs.FieldRows.{has_fields_of}
use Rattle.jm_interp.proofs.Unwound.{named_numbered, names_class}

-- the name is that of an interface, or that of a class that is none
abbrev IsKind : List ClassParts → Bool → List ℕ → Type 0
IsKind program interface name = (d : ClassParts) × (class_named program name ≡ Some d) × (is_interface d.flags ≡ interface)

-- the superclass is no interface, and java/lang/Object where an interface names it; the superinterfaces are interfaces
abbrev ExtendsWell : List ClassParts → AccessFlags → List ℕ → Type 0
ExtendsWell program flags s = IsKind program false s × (is_interface flags ≡ true → s ≡ object_class)

record NamesWell (program : List ClassParts) (c : ClassParts) : Type 0 where
  superclass : (s : List ℕ) → c.superclass ≡ Some s → ExtendsWell program c.flags s
  interfaces : AllByRecursion (IsKind program true) c.interfaces

-- the built-in classes do
is_of_kind : Bool → Option ClassParts → Bool
is_of_kind interface None = false
is_of_kind interface (Some d) = same_bool interface (is_interface d.flags)

extends_well : AccessFlags → Option (List ℕ) → Bool
extends_well flags None = true
extends_well flags (Some s) = is_of_kind false (built_in_named the_builtins s) && (not (is_interface flags) || same_text s object_class)

names_well : BuiltIn → Bool
names_well b = extends_well b.flags b.superclass && list_all (λ i. is_of_kind true (built_in_named the_builtins i)) b.interfaces

all_name_well : list_all names_well the_builtins ≡ true
unfolding names_well extends_well is_of_kind
all_name_well = refl

same_is : (a b : Bool) → same_bool a b ≡ true → b ≡ a
same_is true b e = e
same_is false true e = cc
same_is false false e = refl

-- one of the names for which a test holds
any_of : (test : List ℕ → Bool) (P : List ℕ → Type 0) (xs : List (List ℕ)) → AllByRecursion P xs → holds_of_any test xs ≡ true
    → (x : List ℕ) × P x × (test x ≡ true)
any_of test P [] a e = cc
any_of test P (x ∷ xs) a e = by (any_of test P xs a.1) (test x) refl e
  where
    by : (holds_of_any test xs ≡ true → (y : List ℕ) × P y × (test y ≡ true)) → (b : Bool) → test x ≡ b
        → (elim b as (λ _. Bool) [ true ↦ true | false ↦ holds_of_any test xs ]) ≡ true → (y : List ℕ) × P y × (test y ≡ true)
    by rest true t g = (x, a.0, t)
    by rest false t g = rest g

-- the superclass among those right above
abbrev Extends : (List ℕ → Bool) → Option (List ℕ) → Type 0
Extends test o = (s : List ℕ) × (o ≡ Some s) × (test s ≡ true)

either_above : (test : List ℕ → Bool) (o : Option (List ℕ)) (xs : List (List ℕ)) → holds_of_any test (option_to_list o ++ xs) ≡ true
    → Extends test o ⊎ (holds_of_any test xs ≡ true)
either_above test None xs e = inr e
either_above test (Some s) xs e = by (test s) refl e
  where
    by : (b : Bool) → test s ≡ b → (elim b as (λ _. Bool) [ true ↦ true | false ↦ holds_of_any test xs ]) ≡ true
        → Extends test (Some s) ⊎ (holds_of_any test xs ≡ true)
    by true t g = inl (s, refl, t)
    by false t g = inr g

super_not : (test : List ℕ → Bool) (o : Option (List ℕ)) (xs : List (List ℕ)) → holds_of_any test (option_to_list o ++ xs) ≡ false → (s : List ℕ)
    → o ≡ Some s → test s ≡ false
super_not test None xs e s is = cc
super_not test (Some u) xs e s is =
    let same : u ≡ s = cc in ap test (sym same) ∙ by (test u) e
  where
    by : (b : Bool) → (elim b as (λ _. Bool) [ true ↦ true | false ↦ holds_of_any test xs ]) ≡ false → b ≡ false
    by true g = cc
    by false g = refl

module _ (program : List ClassParts) (loads : Loads program) where
  kind_is : (interface : Bool) (name : List ℕ) → is_of_kind interface (built_in_named the_builtins name) ≡ true → IsKind program interface name
  unfolding is_of_kind
  kind_is interface name e = by (built_in_named the_builtins name) refl e
    where
      by : (o : Option ClassParts) → built_in_named the_builtins name ≡ o → is_of_kind interface o ≡ true → IsKind program interface name
      by None q g = cc
      by (Some d) q g = (d, built_in_class program loads name (ap is_some q) ∙ q, same_is interface (is_interface d.flags) g)

  built_in_well : (b : BuiltIn) → names_well b ≡ true → NamesWell program (as_class b)
  unfolding names_well extends_well
  built_in_well b e = record {
    superclass = λ s is. its b.superclass s is (both _ _ e).0;
    interfaces = all b.interfaces (both _ _ e).1;
  }
    where
      its : (o : Option (List ℕ)) (s : List ℕ) → o ≡ Some s → extends_well b.flags o ≡ true → ExtendsWell program b.flags s
      its None s is h = cc
      its (Some u) s is h =
          let same : u ≡ s = cc in
          let parts = both (is_of_kind false (built_in_named the_builtins u)) (not (is_interface b.flags) || same_text u object_class) h in
          subst (ExtendsWell program b.flags) same
          (kind_is false u parts.0, λ i. text_is u object_class (implied (is_interface b.flags) (same_text u object_class) parts.1 i))

      all : (xs : List (List ℕ)) → list_all (λ i. is_of_kind true (built_in_named the_builtins i)) xs ≡ true → AllByRecursion (IsKind program true) xs
      all [] h = tt
      all (x ∷ xs) h =
          let parts = both (is_of_kind true (built_in_named the_builtins x)) (list_all (λ i. is_of_kind true (built_in_named the_builtins i)) xs) h in
          (kind_is true x parts.0, all xs parts.1)

  found_built_in_well : (bs : List BuiltIn) (name : List ℕ) (c : ClassParts) → list_all names_well bs ≡ true → built_in_named bs name ≡ Some c
      → NamesWell program c
  found_built_in_well [] name c e h = cc
  found_built_in_well (b ∷ bs) name c e h =
      by (λ g. found_built_in_well bs name c (both (names_well b) (list_all names_well bs) e).1 g) (same_text b.name name) h
    where
      by : (built_in_named bs name ≡ Some c → NamesWell program c) → (t : Bool)
          → (elim t as (λ _. Option ClassParts) [ true ↦ Some (as_class b) | false ↦ built_in_named bs name ]) ≡ Some c → NamesWell program c
      by rest true g =
          let same : as_class b ≡ c = cc in
          subst (NamesWell program) same (built_in_well b (both (names_well b) (list_all names_well bs) e).0)
      by rest false g = rest g

  -- and so do the program's, as it loads
  own_superclass_well : (c : ClassParts) (o : Option (List ℕ)) → superclass_refusal program c o ≡ None → (s : List ℕ) → o ≡ Some s
      → ExtendsWell program c.flags s
  own_superclass_well c None e s is = cc
  own_superclass_well c (Some u) e s is =
      let same : u ≡ s = cc in subst (ExtendsWell program c.flags) same (by (class_named program u) refl e)
    where
      by : (o : Option ClassParts) → class_named program u ≡ o → superclass_of_kind c u o ≡ None → ExtendsWell program c.flags u
      by None q g = cc
      by (Some d) q g =
          let none = not_refused (is_interface d.flags || is_sealed u || is_strange_interface c u) (wrong_kind u) g in
          let kind = left_false (is_interface d.flags) (is_sealed u) (left_false (is_interface d.flags || is_sealed u) (is_strange_interface c u) none) in
          let plain = right_false (is_interface d.flags || is_sealed u) (is_strange_interface c u) none in
          ((d, q, kind), λ i. text_is u object_class (strange (is_interface c.flags) (same_text u object_class) plain i))
        where
          strange : (a b : Bool) → (a && not b) ≡ false → a ≡ true → b ≡ true
          strange true true h i = refl
          strange true false h i = cc
          strange false b h i = cc

  own_interfaces_well : (xs : List (List ℕ)) → first_of_all (λ name. interface_of_kind name (class_named program name)) xs ≡ None
      → AllByRecursion (IsKind program true) xs
  own_interfaces_well [] e = tt
  own_interfaces_well (x ∷ xs) e =
      let rest = first_of_all (λ name. interface_of_kind name (class_named program name)) xs in (
        by (class_named program x) refl (first_none (interface_of_kind x (class_named program x)) rest e),
        own_interfaces_well xs (second_none (interface_of_kind x (class_named program x)) rest e),
      )
    where
      by : (o : Option ClassParts) → class_named program x ≡ o → interface_of_kind x o ≡ None → IsKind program true x
      by None q g = cc
      by (Some d) q g = (d, q, flip (is_interface d.flags) (not_refused (not (is_interface d.flags)) (wrong_kind x) g))
        where
          flip : (b : Bool) → not b ≡ false → b ≡ true
          flip true h = refl
          flip false h = cc

  own_well : (c : ClassParts) → parents_refusal program c ≡ None → NamesWell program c
  own_well c e =
      let interfaces = first_of_all (λ name. interface_of_kind name (class_named program name)) c.interfaces in
      record {
        superclass = own_superclass_well c c.superclass (first_none (superclass_refusal program c c.superclass) interfaces e);
        interfaces = own_interfaces_well c.interfaces (second_none (superclass_refusal program c c.superclass) interfaces e);
      }

  among_well : (cs : List ClassParts) (name : List ℕ) (c : ClassParts) → first_of_all (parents_refusal program) cs ≡ None → class_among cs name ≡ Some c
      → NamesWell program c
  among_well [] name c e h = found_built_in_well the_builtins name c all_name_well h
  among_well (d ∷ ds) name c e h =
      by (λ g. among_well ds name c (second_none (parents_refusal program d) (first_of_all (parents_refusal program) ds) e) g) (same_text d.name name) h
    where
      by : (class_among ds name ≡ Some c → NamesWell program c) → (t : Bool)
          → (elim t as (λ _. Option ClassParts) [ true ↦ Some d | false ↦ class_among ds name ]) ≡ Some c → NamesWell program c
      by rest true g =
          let same : d ≡ c = cc in
          subst (NamesWell program) same (own_well d (first_none (parents_refusal program d) (first_of_all (parents_refusal program) ds) e))
      by rest false g = rest g

  none_refused : first_of_all (parents_refusal program) program ≡ None
  unfolding refusal
  none_refused = first_none _ _ (second_none _ _ (second_none _ _ loads))

  well : (name : List ℕ) (c : ClassParts) → class_named program name ≡ Some c → NamesWell program c
  unfolding class_named
  well name c e = among_well program name c none_refused e

  -- what is right above a class that is not the other itself
  above_it : (n : ℕ) (name above : List ℕ) (c : ClassParts) → class_named program name ≡ Some c → same_text name above ≡ false → (b : Bool)
      → is_below (suc n) program name above ≡ b
      → holds_of_any (λ p. is_below n program p above) (option_to_list c.superclass ++ c.interfaces) ≡ b
  above_it n name above c found other b e =
      sym (ap (λ t. elim t as (λ _. Bool) [
        | true ↦ true
        | false ↦ holds_of_any (λ p. is_below n program p above) (parents (class_named program name))
      ]) other
      ∙ ap (λ o. holds_of_any (λ p. is_below n program p above) (parents o)) found) ∙ e

  -- above an interface stand interfaces, and java/lang/Object
  above_object : (n : ℕ) (above : List ℕ) → is_below n program object_class above ≡ true → above ≡ object_class
  above_object zero above e = cc
  above_object (suc n) above e = by (same_text object_class above) refl
    where
      by : (t : Bool) → same_text object_class above ≡ t → above ≡ object_class
      by true t = sym (text_is object_class above t)
      by false t =
          let bad : false ≡ true = above_it n object_class above _ (built_in_class program loads object_class refl) t true e in cc

  above_interface : (n : ℕ) (name above : List ℕ) (f : ClassParts) → IsKind program true name → class_named program above ≡ Some f
      → is_interface f.flags ≡ false → is_below n program name above ≡ true → above ≡ object_class
  above_interface zero name above f kind found plain e = cc
  above_interface (suc n) name above f kind found plain e =
      by (λ x k h. above_interface n x above f k found plain h) (same_text name above) refl
    where
      by : ((x : List ℕ) → IsKind program true x → is_below n program x above ≡ true → above ≡ object_class) → (t : Bool) → same_text name above ≡ t
          → above ≡ object_class
      by rest true t =
          let some : Some kind.0 ≡ Some f = sym kind.1 ∙ ap (class_named program) (text_is name above t) ∙ found in
          let same : kind.0 ≡ f = cc in
          let bad : true ≡ false = sym kind.2 ∙ ap (λ (x : ClassParts). is_interface x.flags) same ∙ plain in
          cc
      by rest false t =
          let names = well name kind.0 kind.1 in
          elim (either_above (λ p. is_below n program p above) kind.0.superclass kind.0.interfaces
          (above_it n name above kind.0 kind.1 t true e)) [
            | inl s ↦ above_object n above
                (subst (λ x. is_below n program x above ≡ true) ((names.superclass s.0 s.1).1 kind.2) s.2)
            | inr any ↦ let x = any_of (λ p. is_below n program p above) (IsKind program true) kind.0.interfaces names.interfaces any in
                rest x.0 x.1 x.2
          ]

  -- the classes from a class up
  from_it : (n : ℕ) (name : List ℕ) (c : ClassParts) → class_named program name ≡ Some c
      → up_from (suc n) program name ≡ (elim c.superclass as (λ _. List ClassParts) [ None ↦ c ∷ [] | Some s ↦ c ∷ up_from n program s ])
  from_it n name c found =
      ap (λ o. elim o as (λ _. List ClassParts) [
        | None ↦ []
        | Some d ↦ elim d.superclass as (λ _. List ClassParts) [ None ↦ d ∷ [] | Some s ↦ d ∷ up_from n program s ]
      ]) found

  first_up : (n : ℕ) (name : List ℕ) (c : ClassParts) → class_named program name ≡ Some c → slice_get (up_from (suc n) program name) 0 ≡ Some c
  first_up n name c found = ap (λ cs. slice_get cs 0) (from_it n name c found) ∙ by c.superclass
    where
      by : (o : Option (List ℕ)) → slice_get (elim o as (λ _. List ClassParts) [ None ↦ c ∷ [] | Some s ↦ c ∷ up_from n program s ]) 0 ≡ Some c
      by None = refl
      by (Some s) = refl

  later_up : (n : ℕ) (name : List ℕ) (c : ClassParts) → class_named program name ≡ Some c → (s : List ℕ) → c.superclass ≡ Some s → (k : ℕ)
      → slice_get (up_from (suc n) program name) (suc k) ≡ slice_get (up_from n program s) k
  later_up n name c found s is k =
      ap (λ cs. slice_get cs (suc k)) (from_it n name c found)
      ∙ ap (λ o. slice_get (elim o as (λ _. List ClassParts) [ None ↦ c ∷ [] | Some u ↦ c ∷ up_from n program u ]) (suc k)) is

  nothing_up : (n : ℕ) (name : List ℕ) (c : ClassParts) → class_named program name ≡ Some c → c.superclass ≡ None → (k : ℕ)
      → slice_get (up_from (suc n) program name) (suc k) ≡ None
  nothing_up n name c found none k =
      ap (λ cs. slice_get cs (suc k)) (from_it n name c found)
      ∙ ap (λ o. slice_get (elim o as (λ _. List ClassParts) [ None ↦ c ∷ [] | Some u ↦ c ∷ up_from n program u ]) (suc k)) none

  -- a class that is no interface, and not java/lang/Object, is above another where it stands in the chain
  stands_up : (n : ℕ) (name above : List ℕ) (f : ClassParts) → class_named program above ≡ Some f → is_interface f.flags ≡ false
      → (above ≡ object_class → ⊥) → is_below n program name above ≡ true → (k : ℕ) × (slice_get (up_from n program name) k ≡ Some f)
  stands_up zero name above f found plain other e = cc
  stands_up (suc n) name above f found plain other e =
      by (λ s h. stands_up n s above f found plain other h) (same_text name above) refl
    where
      of : ((s : List ℕ) → is_below n program s above ≡ true → (k : ℕ) × (slice_get (up_from n program s) k ≡ Some f)) → same_text name above ≡ false
          → (o : Option ClassParts) → class_named program name ≡ o → (k : ℕ) × (slice_get (up_from (suc n) program name) k ≡ Some f)
      of rest t None q =
          let bad : false ≡ true = sym (ap (λ b. elim b as (λ _. Bool) [
            | true ↦ true
            | false ↦ holds_of_any (λ p. is_below n program p above) (parents (class_named program name))
          ]) t
          ∙ ap (λ o. holds_of_any (λ p. is_below n program p above) (parents o)) q) ∙ e in
          cc
      of rest t (Some c) q =
          elim (either_above (λ p. is_below n program p above) c.superclass c.interfaces (above_it n name above c q t true e)) [
            | inl s ↦ let there = rest s.0 s.2 in (suc there.0, later_up n name c q s.0 s.1 there.0 ∙ there.1)
            | inr any ↦ let x = any_of (λ p. is_below n program p above) (IsKind program true) c.interfaces (well name c q).interfaces any in
                absurd (other (above_interface n x.0 above f x.1 found plain x.2))
          ]

      by : ((s : List ℕ) → is_below n program s above ≡ true → (k : ℕ) × (slice_get (up_from n program s) k ≡ Some f)) → (t : Bool)
          → same_text name above ≡ t → (k : ℕ) × (slice_get (up_from (suc n) program name) k ≡ Some f)
      by rest true t = (0, first_up n name f (ap (class_named program) (text_is name above t) ∙ found))
      by rest false t = of rest t (class_named program name) refl

  -- where no class of a name stands in a chain
  others_up : (n : ℕ) (name above : List ℕ) (c : ClassParts) → class_named program name ≡ Some c → same_text name above ≡ false
      → ((s : List ℕ) → c.superclass ≡ Some s → AreOthers (up_from n program s) above) → AreOthers (up_from (suc n) program name) above
  others_up n name above c found other rest zero d at =
      let some : Some c ≡ Some d = sym (first_up n name c found) ∙ at in
      let same : c ≡ d = cc in
      ap (λ (x : ClassParts). same_text x.name above) (sym same)
      ∙ ap (λ x. same_text x above) (text_is c.name name (has_own_name program name c found))
      ∙ other
  others_up n name above c found other rest (suc k) d at = by c.superclass refl
    where
      by : (o : Option (List ℕ)) → c.superclass ≡ o → same_text d.name above ≡ false
      by None q = let bad : None ≡ Some d = sym (nothing_up n name c found q k) ∙ at in cc
      by (Some s) q = rest s q k d (sym (later_up n name c found s q k) ∙ at)

  nothing : (above : List ℕ) → AreOthers [] above
  nothing above k d at = cc

  not_above : (n : ℕ) (name above : List ℕ) → is_below n program name above ≡ false → AreOthers (up_from n program name) above
  not_above zero name above e = nothing above
  not_above (suc n) name above e = by (λ s h. not_above n s above h) (same_text name above) refl (class_named program name) refl
    where
      by : ((s : List ℕ) → is_below n program s above ≡ false → AreOthers (up_from n program s) above) → (t : Bool) → same_text name above ≡ t
          → (o : Option ClassParts) → class_named program name ≡ o → AreOthers (up_from (suc n) program name) above
      by rest true t o q =
          let bad : true ≡ false = sym (ap (λ b. elim b as (λ _. Bool) [
            | true ↦ true
            | false ↦ holds_of_any (λ p. is_below n program p above) (parents (class_named program name))
          ]) t) ∙ e in
          λ k d at. cc
      by rest false t None q = λ k d at.
          let bad : None ≡ Some d = sym (ap (λ x. slice_get (elim x as (λ _. List ClassParts) [
            | None ↦ []
            | Some c ↦ elim c.superclass as (λ _. List ClassParts) [ None ↦ c ∷ [] | Some s ↦ c ∷ up_from n program s ]
          ]) k) q) ∙ at in
          cc
      by rest false t (Some c) q =
          others_up n name above c q t
          (λ s is. rest s (super_not (λ p. is_below n program p above) c.superclass c.interfaces (above_it n name above c q t false e) s is))

  -- an interface is no superclass
  not_super : (n : ℕ) (name above : List ℕ) (f : ClassParts) → class_named program above ≡ Some f → is_interface f.flags ≡ true
      → IsKind program false name → AreOthers (up_from n program name) above
  not_super zero name above f found interface kind = nothing above
  not_super (suc n) name above f found interface kind =
      others_up n name above kind.0 kind.1 (by (same_text name above) refl)
      (λ s is. not_super n s above f found interface ((well name kind.0 kind.1).superclass s is).0)
    where
      by : (t : Bool) → same_text name above ≡ t → same_text name above ≡ false
      by false t = t
      by true t =
          let some : Some kind.0 ≡ Some f = sym kind.1 ∙ ap (class_named program) (text_is name above t) ∙ found in
          let same : kind.0 ≡ f = cc in
          let bad : false ≡ true = sym kind.2 ∙ ap (λ (x : ClassParts). is_interface x.flags) same ∙ interface in
          cc

  not_interface : (n : ℕ) (name above : List ℕ) (c f : ClassParts) → class_named program above ≡ Some f → is_interface f.flags ≡ true
      → class_named program name ≡ Some c → same_text name above ≡ false → AreOthers (up_from n program name) above
  not_interface zero name above c f found interface its other = nothing above
  not_interface (suc n) name above c f found interface its other =
      others_up n name above c its other (λ s is. not_super n s above f found interface ((well name c its).superclass s is).0)

  -- java/lang/Object declares no field
  no_object : (f : ClassParts) → class_named program object_class ≡ Some f → (k : ℕ) → slice_get f.fields k ≡ None
  no_object f found k =
      let some = sym (built_in_class program loads object_class refl) ∙ found in
      ap (λ (o : Option ClassParts). elim o as (λ _. Option _) [ None ↦ None | Some x ↦ slice_get x.fields k ]) (sym some)

-- the names of classes by number
either_true : (a b : Bool) → (a || b) ≡ true → (a ≡ true) ⊎ (b ≡ true)
either_true true b e = inl refl
either_true false b e = inr e

-- a class of a number, and another that declares fields and methods
module _ (l : LinkedView) (is : IsLinked l) (class : ℕ) (within : class < length the_builtins + length l.program) (number : ℕ) (declaring : ClassParts)
    (numbered : class_numbered l.program number ≡ Some declaring) where
  abbrev pub name : List ℕ
  name = class_name_of l.program class

  its_class : (c : ClassParts) × (class_numbered l.program class ≡ Some c)
  its_class =
      let long : length (map as_class the_builtins ++ l.program) ≡ length the_builtins + length l.program =
      length-append (map as_class the_builtins) l.program ∙ ap (λ k. k + length l.program) (length-map the_builtins as_class) in
      get_there (map as_class the_builtins ++ l.program) class (subst (λ k. class < k) (sym long) within)

  its_name : name ≡ its_class.0.name
  unfolding class_name_of
  its_name = ap (λ o. unwrap_or o []) (named_numbered l.program class its_class.0 its_class.1)

  named : class_named l.program name ≡ Some its_class.0
  named = ap (class_named l.program) its_name ∙ found_numbered l.program is.loads class its_class.0 its_class.1

  declared : class_named l.program declaring.name ≡ Some declaring
  declared = found_numbered l.program is.loads number declaring numbered

  pub apart : same_text name declaring.name ≡ nat_eq class number
  apart =
      same_as l.program is.loads class number name declaring.name (names_class l.program class within) (named_numbered l.program number declaring numbered)

  chain_of : (h : ℕ) → 0 < h → class_named l.program name ≡ Some declaring → (k : ℕ) × (slice_get (up_from h l.program name) k ≡ Some declaring)
  chain_of zero some e = absurd (omega (arith, some))
  chain_of (suc h) some e = (0, first_up l.program is.loads h name declaring e)

  -- the class has them where the other stands in its chain, and else none of the chain has the other's name
  pub stands : (declaring.name ≡ object_class → ⊥) → has_fields_of l.program class name number declaring ≡ true → StandsInChain l.program name declaring
  unfolding chain is_subclass
  stands other e =
      elim (either_true (nat_eq class number) (not (is_interface declaring.flags) && is_subclass l.program name declaring.name) e) [
        | inl same ↦ let classes : length the_builtins ≡ 29 = refl in
            chain_of (height l.program) (omega arith) (ap (class_named l.program) (text_is name declaring.name (apart ∙ same)) ∙ declared)
        | inr so ↦ let parts = both (not (is_interface declaring.flags)) (is_subclass l.program name declaring.name) so in
            stands_up l.program is.loads (height l.program) name declaring.name declaring declared
            (not_true (is_interface declaring.flags) parts.0) other parts.1
      ]

  pub others : has_fields_of l.program class name number declaring ≡ false → AreOthers (up_from (height l.program) l.program name) declaring.name
  unfolding is_subclass
  others e =
      let other = left_false (nat_eq class number) (not (is_interface declaring.flags) && is_subclass l.program name declaring.name) e in
      let not_so_either = right_false (nat_eq class number) (not (is_interface declaring.flags) && is_subclass l.program name declaring.name) e in
      by (is_interface declaring.flags) refl other not_so_either
    where
      by : (b : Bool) → is_interface declaring.flags ≡ b → nat_eq class number ≡ false
          → (not b && is_subclass l.program name declaring.name) ≡ false → AreOthers (up_from (height l.program) l.program name) declaring.name
      by true i other so =
          not_interface l.program is.loads (height l.program) name declaring.name its_class.0 declaring declared i named (apart ∙ other)
      by false i other so = not_above l.program is.loads (height l.program) name declaring.name so

-- a field that a class declares, in the instances of a class of a number
module _ (l : LinkedView) (is : IsLinked l) (class : ℕ) (within : class < length the_builtins + length l.program) (n : MemberNumber) (found : FoundField)
    (numbered : IsFieldOf l.program n found) where
  abbrev own_name : List ℕ
  own_name = class_name_of l.program class

  no_object_class : found.class.name ≡ object_class → ⊥
  no_object_class e =
      let declared = found_numbered l.program is.loads n.class found.class numbered.class in
      let none = no_object l.program is.loads found.class (sym (ap (class_named l.program) e) ∙ declared) n.member in
      let bad = sym none ∙ numbered.field in cc

  pub no_place : has_fields_of l.program class own_name n.class found.class ≡ false
      → place_of_field (instance_fields l.program own_name) (name_of_field found) ≡ None
  unfolding instance_fields chain
  no_place e =
      ap (λ gs. place_of_field gs (name_of_field found)) (fields_are (up_from (height l.program) l.program own_name))
      ∙ not_in_others (up_from (height l.program) l.program own_name) (name_of_field found) (others l is class within n.class found.class numbered.class e)

  pub its_place : has_fields_of l.program class own_name n.class found.class ≡ true → {place : ℕ}
      → slot_at l.tables.layout n.class n.member ≡ Some (Instance place)
      → place_of_field (instance_fields l.program own_name) (name_of_field found) ≡ Some place
  its_place e {place} at = by (is_static found.field.flags) refl
    where
      instance : (o : Option ℕ) → option_map Instance o ≡ Some (Instance place) → o ≡ Some place
      instance None h = cc
      instance (Some k) h = let same : Some (Instance k) ≡ Some (Instance place) = h in let number : k ≡ place = cc in ap Some number

      static : (o : Option ℕ) → option_map Static o ≡ Some (Instance place) → ⊥
      static None h = cc
      static (Some k) h = cc

      there : (name_of (all_names l.program) class ≡ own_name) × (class < length (all_names l.program))
      there = named_at l.program class own_name (names_class l.program class within)

      by : (t : Bool) → is_static found.field.flags ≡ t → place_of_field (instance_fields l.program own_name) (name_of_field found) ≡ Some place
      by true t =
          absurd (static (place_of_field (static_fields l.program) (name_of_field found))
          (sym (is.tables.layout.numbers n.class n.member found (record { class_is = numbered.class; field_is = numbered.field }) t) ∙ at))
      by false t =
          ap (λ x. place_of_field (instance_fields l.program x) (name_of_field found)) (sym there.0)
          ∙ instance (place_of_field (instance_fields l.program (name_of (all_names l.program) class)) (name_of_field found))
          (sym (is.tables.layout.places n.class n.member class found (record { class_is = numbered.class; field_is = numbered.field }) t there.1
          (subst (λ x. StandsInChain l.program x found.class) (sym there.0)
          (stands l is class within n.class found.class numbered.class no_object_class e)))
          ∙ at)
