-- The method of a place, among those of a class and of a program.
use Rattle.std.proofs.Common.{◌≡◌, ℕ, ◌+◌, ◌<◌, ◌≤◌, List, [], ◌∷◌, Bool, true, false, ◌&&◌, Option, Some, None, length, drop, get_or, refl, ap, ◌∙◌}
use Rattle.std.specs.Prelude.{nat_lt}
use Rattle.std.specs.List.{list_all}
use Rattle.std.proofs.lemmas.List.{drop_all}
use Rattle.jm_program.specs.Names.{same_text}
use Rattle.jm_program.specs.declared.class.ClassParts.{ClassParts}
use Rattle.jm_program.specs.declared.class.Method.{Method}
use Rattle.jm_program.specs.declared.code.Code.{Code}
use Rattle.jm_program.specs.declared.descriptor.MethodDescriptor.{MethodDescriptor}
use Rattle.jm_program.proofs.Truths.{both_true}
use Rattle.jm_builtins.specs.List.{the_builtins}
use Rattle.jm_builtins.specs.declared.built_in.BuiltIn.{BuiltIn}
use Rattle.jm_world.specs.Types.{same_method_type}
use Rattle.jm_world.specs.Classes.{MethodName, as_class, built_in_named, class_among, class_named, method_in, method_of_class}
use Rattle.jm_debug.specs.Session.{has_instruction, is_place_of}
use Rattle.jm_debug.specs.declared.place.Place.{Place}
use Rattle.jm_values.proofs.Lists.{first_left}

-- ---- methods of a class

abbrev pub is_of : Method → Place → Bool
is_of m p = same_text m.name p.method && same_method_type m.descriptor p.descriptor

method_taken : (m : Method) (ms : List Method) (p : Place) → is_of m p ≡ true → method_in (m ∷ ms) p.method p.descriptor ≡ Some m
method_taken m ms p found = ap (λ b. elim b as (λ _. Option Method) [ true ↦ Some m | false ↦ method_in ms p.method p.descriptor ]) found

method_left : (m : Method) (ms : List Method) (p : Place) → is_of m p ≡ false → method_in (m ∷ ms) p.method p.descriptor ≡ method_in ms p.method p.descriptor
method_left m ms p not = ap (λ b. elim b as (λ _. Option Method) [ true ↦ Some m | false ↦ method_in ms p.method p.descriptor ]) not

-- what the methods from an index on make of a place
unfoldable pub methods_from : List Method → Place → ℕ → Bool
methods_from ms p i = has_instruction p.instruction (method_in (drop i ms) p.method p.descriptor)

pub all_methods : (ms : List Method) (p : Place) → methods_from ms p 0 ≡ has_instruction p.instruction (method_in ms p.method p.descriptor)
unfolding methods_from
all_methods ms p = refl

pub method_found : (ms : List Method) (p : Place) (i : ℕ) (m : Method) → i < length ms → m ≡ get_or ms i m → is_of m p ≡ true → methods_from ms p i ≡ has_instruction p.instruction (Some m)
unfolding methods_from
method_found ms p i m within is found =
    ap (λ xs. has_instruction p.instruction (method_in xs p.method p.descriptor)) (first_left ms i m within is) ∙ ap (has_instruction p.instruction) (method_taken m (drop (i + 1) ms) p found)

pub method_passed : (ms : List Method) (p : Place) (i : ℕ) (m : Method) → i < length ms → m ≡ get_or ms i m → is_of m p ≡ false → methods_from ms p i ≡ methods_from ms p (i + 1)
unfolding methods_from
method_passed ms p i m within is not =
    ap (λ xs. has_instruction p.instruction (method_in xs p.method p.descriptor)) (first_left ms i m within is) ∙ ap (has_instruction p.instruction) (method_left m (drop (i + 1) ms) p not)

pub no_method_left : (ms : List Method) (p : Place) (i : ℕ) → length ms ≤ i → methods_from ms p i ≡ false
unfolding methods_from
no_method_left ms p i past = ap (λ xs. has_instruction p.instruction (method_in xs p.method p.descriptor)) (drop_all i ms past)

-- ---- built-in methods have no code

abbrev is_codeless : Option Code → Bool
is_codeless None = true
is_codeless (Some code) = false

codeless_on : (number : ℕ) (m : Method) (o : Option Code) → m.code ≡ o → is_codeless o ≡ true → has_instruction number (Some m) ≡ false
codeless_on number m None is none = ap (λ o. elim o as (λ _. Bool) [ None ↦ false | Some code ↦ nat_lt number (length code.instructions) ]) is
codeless_on number m (Some code) is none = cc

codeless_method : (number : ℕ) (m : Method) → is_codeless m.code ≡ true → has_instruction number (Some m) ≡ false
codeless_method number m none = codeless_on number m m.code refl none

codeless_methods : (ms : List Method) (number : ℕ) (name : List ℕ) (t : MethodDescriptor) → list_all (λ (m : Method). is_codeless m.code) ms ≡ true → has_instruction number (method_in ms name t) ≡ false
codeless_methods [] number name t all = refl
codeless_methods (m ∷ ms) number name t all =
    by (same_text m.name name && same_method_type m.descriptor t) (both_true (is_codeless m.code) (list_all (λ (x : Method). is_codeless x.code) ms) all) (codeless_methods ms number name t)
  where
    by : (b : Bool) → (is_codeless m.code ≡ true) × (list_all (λ (x : Method). is_codeless x.code) ms ≡ true)
        → (list_all (λ (x : Method). is_codeless x.code) ms ≡ true → has_instruction number (method_in ms name t) ≡ false)
        → has_instruction number (elim b as (λ _. Option Method) [ true ↦ Some m | false ↦ method_in ms name t ]) ≡ false
    by true both rest = codeless_method number m both.0
    by false both rest = rest both.1

abbrev codeless_class : BuiltIn → Bool
codeless_class b = list_all (λ (m : Method). is_codeless m.code) b.methods

all_codeless : list_all codeless_class the_builtins ≡ true
all_codeless = refl

built_in_on : (bs : List BuiltIn) (number : ℕ) (m : MethodName) → list_all codeless_class bs ≡ true → has_instruction number (method_of_class (built_in_named bs m.class) m) ≡ false
built_in_on [] number m all = refl
built_in_on (b ∷ bs) number m all = by (same_text b.name m.class) (both_true (codeless_class b) (list_all codeless_class bs) all) (built_in_on bs number m)
  where
    by : (is : Bool) → (codeless_class b ≡ true) × (list_all codeless_class bs ≡ true)
        → (list_all codeless_class bs ≡ true → has_instruction number (method_of_class (built_in_named bs m.class) m) ≡ false)
        → has_instruction number (method_of_class (elim is as (λ _. Option ClassParts) [ true ↦ Some (as_class b) | false ↦ built_in_named bs m.class ]) m) ≡ false
    by true both rest = codeless_methods b.methods number m.name m.descriptor both.0
    by false both rest = rest both.1

built_in : (number : ℕ) (m : MethodName) → has_instruction number (method_of_class (built_in_named the_builtins m.class) m) ≡ false
built_in number m = built_in_on the_builtins number m all_codeless

-- ---- classes of a program

abbrev pub name_of : Place → MethodName
name_of p = record { class = p.class; name = p.method; descriptor = p.descriptor }

-- what the classes from an index on make of a place
unfoldable pub classes_from : List ClassParts → Place → ℕ → Bool
classes_from cs p i = has_instruction p.instruction (method_of_class (class_among (drop i cs) p.class) (name_of p))

pub all_classes : (cs : List ClassParts) (p : Place) → classes_from cs p 0 ≡ is_place_of cs p
unfolding classes_from class_named
all_classes cs p = refl

pub class_found : (cs : List ClassParts) (p : Place) (i : ℕ) (c : ClassParts) → i < length cs → c ≡ get_or cs i c → same_text c.name p.class ≡ true
    → classes_from cs p i ≡ has_instruction p.instruction (method_in c.methods p.method p.descriptor)
unfolding classes_from
class_found cs p i c within is found =
    ap (λ xs. has_instruction p.instruction (method_of_class (class_among xs p.class) (name_of p))) (first_left cs i c within is)
    ∙ ap (λ b. has_instruction p.instruction (method_of_class (elim b as (λ _. Option ClassParts) [ true ↦ Some c | false ↦ class_among (drop (i + 1) cs) p.class ]) (name_of p))) found

pub class_passed : (cs : List ClassParts) (p : Place) (i : ℕ) (c : ClassParts) → i < length cs → c ≡ get_or cs i c → same_text c.name p.class ≡ false
    → classes_from cs p i ≡ classes_from cs p (i + 1)
unfolding classes_from
class_passed cs p i c within is not =
    ap (λ xs. has_instruction p.instruction (method_of_class (class_among xs p.class) (name_of p))) (first_left cs i c within is)
    ∙ ap (λ b. has_instruction p.instruction (method_of_class (elim b as (λ _. Option ClassParts) [ true ↦ Some c | false ↦ class_among (drop (i + 1) cs) p.class ]) (name_of p))) not

pub no_class_left : (cs : List ClassParts) (p : Place) (i : ℕ) → length cs ≤ i → classes_from cs p i ≡ false
unfolding classes_from
no_class_left cs p i past =
    ap (λ xs. has_instruction p.instruction (method_of_class (class_among xs p.class) (name_of p))) (drop_all i cs past) ∙ built_in p.instruction (name_of p)
