-- What is gathered of each class for the tables of a program.
use Rattle.std.proofs.Common.{◌≡◌, ℕ, zero, suc, ◌+◌, ◌<◌, List, [], ◌∷◌, ◌++◌, Option, Some, None, length, length-append, refl, sym, ap, ◌∙◌, subst, arith}
use Rattle.std.proofs.lemmas.List.Elements.{All-nil, All-push}
use Rattle.std.proofs.lemmas.List.{length-map}
use Rattle.std.proofs.lemmas.Option.{slice_get_within}
use Rattle.jm_values.proofs.Lists.{get_map, get_there}
use Rattle.std.specs.Prelude.{map, option_map, option_to_list, slice_get, slice_index_or, IfSome}
use Rattle.std.specs.List.{All}
use Rattle.jm_program.specs.declared.class.ClassParts.{ClassParts}
use Rattle.jm_program.proofs.Sequences.{each_and_last}
use Rattle.jm_world.specs.Classes.{as_class, class_named, height}
use Rattle.jm_builtins.specs.List.{the_builtins}
use Rattle.jm_world.specs.Hierarchy.{parents}
use Rattle.jm_world.specs.Loads.{Loads, Refusal, duplicates, duplicate_fields, duplicate_members, duplicate_methods, first_of_all, or_else, refusal}
use Rattle.jm_world.proofs.Refusing.{both_none, none_of_all}
use Rattle.jm_tables.specs.Tables.{IsCellOf}
use Rattle.jm_tables.specs.Hierarchies.{AreHeirs, IsHeir, own_cell}
use Rattle.jm_tables.specs.Layouts.{AreFields, DeclaresFields, classes_of}
use Rattle.jm_tables.specs.Numbering.{name_of}
use Rattle.jm_tables.specs.declared.extent.DeclaredFields.{DeclaredFields}
use Rattle.jm_tables.specs.declared.inheritance.Declared.{Declared}
use Rattle.jm_linked.specs.Links.{class_names, class_numbered}
use Rattle.jm_linked.specs.Tables.{AreSuperclasses, all_names}
use Rattle.jm_linked.proofs.Names.{are_names, name_numbered, found_numbered}
use Rattle.jm_linked.proofs.HeldTypes.{at_is}
use Rattle.jm_linker.specs.BuiltInClasses.{built_in_classes}
use Rattle.jm_linker.specs.Inherited.{IsClass, AreClasses, IsItsFields, AreTheirFields, first_of}
use Rattle.jm_linker.specs.NumberedClasses.{AreNumbers, IsNumberOf}
use Rattle.jm_linker.proofs.ClassLaws.{built_ins_once}

named_at : (program : List ClassParts) (n : ℕ) (name : List ℕ) → slice_get (class_names program) n ≡ Some name
    → (name_of (all_names program) n ≡ name) × (n < length (all_names program))
unfolding all_names
named_at program n name e = at_is (class_names program) n name e

map_both : {A B : Type 0} (f : A → B) (xs ys : List A) → map f (xs ++ ys) ≡ map f xs ++ map f ys
map_both f [] ys = refl
map_both f (x ∷ xs) ys = ap (λ l. f x ∷ l) (map_both f xs ys)

pub no_numbers : (program : List ClassParts) → AreNumbers program [] []
no_numbers program = record { named = refl; within = All-nil (λ n. n < length (all_names program)) }

pub more_numbers : (program : List ClassParts) (ns : List ℕ) (names : List (List ℕ)) (n : ℕ) (name : List ℕ) → AreNumbers program ns names → IsNumberOf program name n
    → AreNumbers program (ns ++ n ∷ []) (names ++ name ∷ [])
more_numbers program ns names n name are is =
    let at = named_at program n name is.named in
    record {
      named = map_both (name_of (all_names program)) ns (n ∷ []) ∙ ap (λ xs. xs ++ name_of (all_names program) n ∷ []) are.named ∙ ap (λ x. names ++ x ∷ []) at.0;
      within = All-push (λ k. k < length (all_names program)) ns n are.within at.1;
    }

pub class_more : (program : List ClassParts) (n : ℕ) (ds : List Declared) (d : Declared) → AreClasses program n ds → IsClass program n d
    → AreClasses program (n + 1) (ds ++ d ∷ [])
class_more program n ds d are is = record {
  length = let many = are.length in length-append ds (d ∷ []) ∙ ap (λ k. k + 1) many;
  each = each_and_last (IsClass program) ds d are.each (subst (λ k. IsClass program k d) (sym are.length) is);
}

-- the declarations of a program that loads
pub are_heirs : (program : List ClassParts) (ds : List Declared) → Loads program → AreClasses program (height program) ds
    → AreHeirs program (all_names program) ds
are_heirs program ds loads are =
    let names = are_names program loads in
    record {
      named = names;
      many = are.length ∙ sym names.many;
      each = λ n d at. declaration n d (are.each n d at);
    }
  where
    declaration : (n : ℕ) (d : Declared) → IsClass program n d → IsHeir program (all_names program) n d
    declaration n d is =
        let name = name_numbered program n is.parts is.numbered in
        let found = found_numbered program loads n is.parts is.numbered in
        record {
          above = is.above.named ∙ ap parents (sym (ap (class_named program) name ∙ found));
          within = is.above.within;
          own = is.own;
        }

-- their fields
pub top_is : (f : ℕ → List ℕ) (s : Option (List ℕ)) (interfaces : List (List ℕ)) (above : List ℕ) → map f above ≡ option_to_list s ++ interfaces
    → option_map f (first_of s above) ≡ s
top_is f None interfaces above e = refl
top_is f (Some name) interfaces [] e = cc
top_is f (Some name) interfaces (n ∷ ns) e = let same : f n ≡ name = cc in ap Some same

top_within : (bound : ℕ) (s : Option (List ℕ)) (above : List ℕ) → All (λ n. n < bound) above → IfSome (first_of s above) (λ n. n < bound)
top_within bound None above h = tt
top_within bound (Some name) [] h = tt
top_within bound (Some name) (n ∷ ns) h = h 0 n (omega arith)

none_of_both : {A : Type 0} (check : A → Option Refusal) (xs ys : List A) → first_of_all check xs ≡ None → first_of_all check ys ≡ None → first_of_all check (xs ++ ys) ≡ None
none_of_both check [] ys e g = g
none_of_both check (x ∷ xs) ys e g =
    let parts = both_none (check x) (first_of_all check xs) e in
    ap (λ o. or_else o (first_of_all check (xs ++ ys))) parts.0 ∙ none_of_both check xs ys parts.1 g

-- no member stands twice in a class of a program that loads
pub once_numbered : (program : List ClassParts) → Loads program → (n : ℕ) (c : ClassParts) → class_numbered program n ≡ Some c
    → (duplicate_fields [] c.fields ≡ None) × (duplicate_methods [] c.methods ≡ None)
unfolding refusal built_in_classes
once_numbered program loads n c at =
    let members = (both_none (duplicates [] program) _ loads).1 in
    let own = (both_none (first_of_all duplicate_members program) _ members).0 in
    let all = none_of_both duplicate_members built_in_classes program built_ins_once own in
    both_none (duplicate_fields [] c.fields) (duplicate_methods [] c.methods) (none_of_all duplicate_members (built_in_classes ++ program) n c all at)

pub are_fields : (program : List ClassParts) (hs : List Declared) (ds : List DeclaredFields) → Loads program → AreClasses program (height program) hs
    → AreTheirFields program hs (length hs) ds → AreFields program (all_names program) ds
are_fields program hs ds loads declarations are =
    let names = are_names program loads in
    record {
      named = names;
      many = are.length ∙ declarations.length ∙ sym names.many;
      each = λ n d at. fields n d (are.each n d at);
    }
  where
    fields : (n : ℕ) (d : DeclaredFields) → IsItsFields program hs n d → DeclaresFields program (all_names program) n d
    fields n d is =
        let name = name_numbered program n is.parts is.numbered in
        let declaration = declarations.each n is.declaration is.declaration_is in
        let same : declaration.parts ≡ is.parts = cc in
        let above = declaration.above.named ∙ ap (λ (c : ClassParts). parents (Some c)) same in
        record {
          parts = is.parts;
          numbered = is.numbered;
          name = sym name;
          named = ap (class_named program) name ∙ found_numbered program loads n is.parts is.numbered;
          superclass = ap (option_map (name_of (all_names program))) is.superclass
              ∙ top_is (name_of (all_names program)) is.parts.superclass is.parts.interfaces is.declaration.above.items above;
          within = subst (λ o. IfSome o (λ s. s < length (all_names program))) (sym is.superclass)
              (top_within (length (all_names program)) is.parts.superclass is.declaration.above.items declaration.above.within);
          fields = is.fields;
          apart = (once_numbered program loads n is.parts is.numbered).0;
        }

-- their superclasses by number
pub are_superclasses : (program : List ClassParts) (ds : List DeclaredFields) → AreFields program (all_names program) ds
    → AreSuperclasses program (map (λ (d : DeclaredFields). d.superclass) ds)
are_superclasses program ds are = λ class c at.
    let within = slice_get_within (classes_of program) class c at in
    let both : length (classes_of program) ≡ length (map as_class the_builtins) + length program = length-append (map as_class the_builtins) program in
    let mapped : length (map as_class the_builtins) ≡ length the_builtins = length-map the_builtins as_class in
    let count : length ds ≡ length program + length the_builtins = are.many ∙ are.named.many in
    let d = get_there ds class (omega arith) in
    let declares = are.each class d.0 d.1 in
    let same : declares.parts ≡ c = let there = declares.numbered in cc in (
      d.0.superclass,
      get_map (λ (x : DeclaredFields). x.superclass) ds class d.0 d.1,
      record {
        named = declares.superclass ∙ ap (λ (p : ClassParts). p.superclass) same;
        within = declares.within;
      },
    )

pub no_fields : (program : List ClassParts) (hs : List Declared) → AreTheirFields program hs 0 []
no_fields program hs = record { length = refl; each = λ n d e. cc }

pub fields_more : (program : List ClassParts) (hs : List Declared) (n : ℕ) (ds : List DeclaredFields) (d : DeclaredFields) → AreTheirFields program hs n ds
    → IsItsFields program hs n d → AreTheirFields program hs (n + 1) (ds ++ d ∷ [])
fields_more program hs n ds d are is = record {
  length = let many = are.length in length-append ds (d ∷ []) ∙ ap (λ k. k + 1) many;
  each = each_and_last (IsItsFields program hs) ds d are.each (subst (λ k. IsItsFields program hs k d) (sym are.length) is);
}

pub got : (ds : List Declared) (k : ℕ) (d : Declared) → k < length ds → slice_get ds k ≡ Some (slice_index_or ds k d)
got [] k d within = absurd (omega arith)
got (x ∷ xs) zero d within = refl
got (x ∷ xs) (suc k) d within = got xs k d (omega arith)

-- each class's own cell is one of a table with a column for each
pub own_cells : (program : List ClassParts) (n : ℕ) (ds : List Declared) → AreClasses program n ds → All (λ (d : Declared). All (IsCellOf (length ds)) d.own.items) ds
own_cells program n ds are = λ k d within.
    subst (λ own. All (IsCellOf (length ds)) own) (sym (are.each k (slice_index_or ds k d) (got ds k d within)).own)
    (All-push (IsCellOf (length ds)) [] (own_cell k) (All-nil (IsCellOf (length ds))) (within, omega arith))
