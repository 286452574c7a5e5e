-- Classes found by name.
use Rattle.std.proofs.Common.{◌≡◌, ℕ, suc, ◌≤◌, Bool, true, false, List, [], ◌∷◌, Option, Some, None, length, drop, refl, sym, ap, ◌∙◌, arith}
use Rattle.std.proofs.lemmas.List.{nil_from_length, length-drop}
use Rattle.std.specs.Borrow.{Bor}
use Rattle.std.specs.Prelude.{map, is_some, option_copied}
use Rattle.jm_program.specs.Names.{same_text}
use Rattle.jm_program.specs.declared.class.ClassParts.{ClassParts}
use Rattle.jm_builtins.specs.declared.built_in.BuiltIn.{BuiltIn}
use Rattle.jm_builtins.specs.List.{the_builtins}
use Rattle.jm_world.specs.Classes.{as_class, built_in_named, class_among, class_named}
use Rattle.jm_world.specs.Loads.{duplicate_members, first_of_all}
use Rattle.jm_linker.specs.declared.members.Members.{Members}
use Rattle.jm_linker.specs.BuiltInClasses.{built_in_classes, class_in, is_built_in_name}

class_in-map : (bs : List BuiltIn) (name : List ℕ) → class_in (map as_class bs) name ≡ built_in_named bs name
class_in-map [] name = refl
class_in-map (b ∷ bs) name = by (same_text b.name name) (class_in-map bs name)
  where
    by : (t : Bool) → class_in (map as_class bs) name ≡ built_in_named bs name → (elim t as (λ _. Option ClassParts) [ true ↦ Some (as_class b) | false ↦ class_in (map as_class bs) name ]) ≡ (elim t as (λ _. Option ClassParts) [ true ↦ Some (as_class b) | false ↦ built_in_named bs name ])
    by true e = refl
    by false e = e

-- a built-in class is found among the built-in ones
pub built_in_found : (name : List ℕ) → class_in built_in_classes name ≡ built_in_named the_builtins name
unfolding built_in_classes
built_in_found name = class_in-map the_builtins name

-- after the last class of a program, the built-in ones are left
pub found_past : (program : List ClassParts) (i : ℕ) (name : List ℕ) → length program ≤ i → class_among program name ≡ class_among (drop i program) name → class_named program name ≡ class_in built_in_classes name
unfolding class_named
found_past program i name l h =
    let none : drop i program ≡ [] = nil_from_length (drop i program) (omega (arith, length-drop i program)) in
    h ∙ rw none refl ∙ sym (built_in_found name)

pub built_in_name : (name : List ℕ) → is_some (class_in built_in_classes name) ≡ is_built_in_name name
unfolding is_built_in_name
built_in_name name = ap is_some (built_in_found name)

copied_some : (o : Option (Bor ClassParts)) → is_some o ≡ is_some (option_copied o)
copied_some None = refl
copied_some (Some x) = refl

pub built_in_told : (o : Option (Bor ClassParts)) (cs : List ClassParts) (name : List ℕ) → cs ≡ built_in_classes → option_copied o ≡ class_in cs name → is_some o ≡ is_built_in_name name
built_in_told o cs name all found = copied_some o ∙ ap is_some (found ∙ ap (λ ds. class_in ds name) all) ∙ built_in_name name

pub length_map : {A B : Type 0} (f : A → B) (xs : List A) → length (map f xs) ≡ length xs
length_map f [] = refl
length_map f (x ∷ xs) = ap (λ n. suc n) (length_map f xs)

-- as many tables of members as classes
pub as_many : (ms : List Members) (cs : List ClassParts) → map (λ (m : Members). m.class.now) ms ≡ cs → length ms ≡ length cs
as_many ms cs e = sym (length_map (λ (m : Members). m.class.now) ms) ∙ ap length e

pub many_built_ins : (ms : List Members) → map (λ (m : Members). m.class.now) ms ≡ built_in_classes → length ms ≡ length the_builtins
unfolding built_in_classes
many_built_ins ms e = as_many ms built_in_classes e ∙ length_map as_class the_builtins

-- no member stands twice in a built-in class
pub built_ins_once : first_of_all duplicate_members built_in_classes ≡ None
unfolding built_in_classes
built_ins_once = refl
