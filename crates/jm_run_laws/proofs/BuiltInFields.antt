-- A built-in class is found in every program that loads, and of the built-in classes String alone
-- has an instance field.
use Rattle.std.proofs.Common.{◌≡◌, ℕ, zero, suc, ◌+◌, List, [], ◌∷◌, Option, Some, None, Bool, true, false, length, refl, sym, ap, ◌∙◌, subst, arith, length-append}
use Rattle.std.specs.Prelude.{not, is_some, nat_eq, reverse, ◌&&◌, ◌||◌}
use Rattle.std.specs.List.{AllByRecursion, flat_map, list_all, sum_by}
use Rattle.std.specs.Cmp.Lexicographic.{bytes_decides}
use Rattle.std.proofs.lemmas.List.Sums.{sum_by-cons}
use Rattle.std.proofs.lemmas.List.Sorted.{sum_by-IsPermutation, IsPermutation-reverse}
use Rattle.jm_program.specs.Names.{same_text}
use Rattle.jm_program.specs.declared.class.ClassParts.{ClassParts}
use Rattle.jm_program.proofs.Truths.{both_true}
use Rattle.jm_program.proofs.Numbers.{equal}
use Rattle.jm_builtins.specs.declared.built_in.BuiltIn.{BuiltIn}
use Rattle.jm_builtins.specs.List.{the_builtins}
use Rattle.jm_world.specs.Classes.{as_class, built_in_named, class_among, class_named, height, object_class, string_class}
use Rattle.jm_world.specs.Hierarchy.{up_from, chain}
use Rattle.jm_world.specs.Objects.{own_instance_fields, instance_fields}
use Rattle.jm_world.specs.Loads.{duplicate_class, when, is_named_among, duplicates, refusal, Loads}
use Rattle.jm_world.proofs.FoundAgain.{class_name_is, not_built_in as none_built_in}
use Rattle.jm_world.proofs.Refusing.{both_none, not_refused}
use Rattle.jm_world.proofs.CalledMethods.{built_in_passes}
use Rattle.jm_world.proofs.Leaving.{is_bare}

abbrev IsNew : ClassParts → Type 0
IsNew c = is_some (built_in_named the_builtins c.name) ≡ false

all_new : (seen cs : List ClassParts) → duplicates seen cs ≡ None → AllByRecursion IsNew cs
all_new seen [] e = tt
all_new seen (c ∷ cs) e =
    let both : (when (is_named_among seen c.name) (duplicate_class c.name) ≡ None) × (duplicates (c ∷ seen) cs ≡ None) = both_none (when (is_named_among seen c.name) (duplicate_class c.name)) (duplicates (c ∷ seen) cs) e in
    (none_built_in seen c.name (not_refused (is_named_among seen c.name) (duplicate_class c.name) both.0), all_new (c ∷ seen) cs both.1)

names_load : (program : List ClassParts) → refusal program ≡ None → duplicates [] program ≡ None
unfolding refusal
names_load program e = (both_none (duplicates [] program) _ e).0

among_built_in : (cs : List ClassParts) (name : List ℕ) (b : ClassParts) → AllByRecursion IsNew cs → built_in_named the_builtins name ≡ Some b → class_among cs name ≡ Some b
among_built_in [] name b a e = e
among_built_in (c ∷ cs) name b a e = by (same_text c.name name) refl (among_built_in cs name b a.1 e)
  where
    clash : c.name ≡ name → ⊥
    clash s = let z : is_some (built_in_named the_builtins c.name) ≡ true = subst (λ n. is_some (built_in_named the_builtins n) ≡ true) (sym s) (ap is_some e) in
        let y : true ≡ false = sym z ∙ a.0 in cc

    by : (x : Bool) → same_text c.name name ≡ x → class_among cs name ≡ Some b → (elim x as (λ _. Option ClassParts) [ true ↦ Some c | false ↦ class_among cs name ]) ≡ Some b
    by true q ih = absurd (clash ((bytes_decides c.name name).0 q))
    by false q ih = ih

pub built_in_there : (program : List ClassParts) → Loads program → (name : List ℕ) (b : ClassParts) → built_in_named the_builtins name ≡ Some b → class_named program name ≡ Some b
unfolding class_named
built_in_there program loads name b e = among_built_in program name b (all_new [] program (names_load program loads)) e

-- how many instance fields there are, from a class up
abbrev own_count : ClassParts → ℕ
own_count c = length (own_instance_fields c)

flat_counted : (cs : List ClassParts) → length (flat_map own_instance_fields cs) ≡ sum_by own_count cs
flat_counted [] = refl
flat_counted (c ∷ cs) = omega (arith, length-append (own_instance_fields c) (flat_map own_instance_fields cs), flat_counted cs, sum_by-cons own_count c cs)

fields_counted : (program : List ClassParts) (class : List ℕ) → length (instance_fields program class) ≡ sum_by own_count (up_from (height program) program class)
unfolding instance_fields chain
fields_counted program class =
    flat_counted (reverse (up_from (height program) program class)) ∙ sum_by-IsPermutation own_count (up_from (height program) program class) (reverse (up_from (height program) program class)) (IsPermutation-reverse (up_from (height program) program class))

abbrev above_count : ℕ → List ClassParts → Option (List ℕ) → ℕ
above_count n program None = 0
above_count n program (Some s) = sum_by own_count (up_from n program s)

up_count : (n : ℕ) (program : List ClassParts) (name : List ℕ) (b : ClassParts) → class_named program name ≡ Some b → sum_by own_count (up_from (suc n) program name) ≡ own_count b + above_count n program b.superclass
up_count n program name b e = by (class_named program name) e
  where
    above : (c : ClassParts) (o : Option (List ℕ)) → sum_by own_count (elim o as (λ _. List ClassParts) [ None ↦ c ∷ [] | Some s ↦ c ∷ up_from n program s ]) ≡ own_count c + above_count n program o
    above c None = sum_by-cons own_count c []
    above c (Some s) = sum_by-cons own_count c (up_from n program s)

    by : (o : Option ClassParts) → o ≡ Some b → sum_by own_count (elim o as (λ _. List ClassParts) [ None ↦ [] | Some c ↦ elim c.superclass [ None ↦ c ∷ [] | Some s ↦ c ∷ up_from n program s ] ]) ≡ own_count b + above_count n program b.superclass
    by None q = cc
    by (Some c) q = let same : c ≡ b = cc in subst (λ x. sum_by own_count (elim c.superclass as (λ _. List ClassParts) [ None ↦ c ∷ [] | Some s ↦ c ∷ up_from n program s ]) ≡ own_count x + above_count n program x.superclass) same (above c c.superclass)

-- a built-in class is String, or has no instance field and stands below such a one
abbrev is_bare_above : Option (List ℕ) → Bool
is_bare_above None = true
is_bare_above (Some s) = is_bare s

abbrev passes : ClassParts → Bool
passes c = same_text c.name string_class || (nat_eq (own_count c) 0 && is_bare_above c.superclass)

all_pass : list_all (λ (b : BuiltIn). passes (as_class b)) the_builtins ≡ true
all_pass = refl

other_than : (a b : Bool) → (a || b) ≡ true → not a ≡ true → b ≡ true
other_than true b e n = cc
other_than false b e n = e

pub bare_there : (program : List ClassParts) → Loads program → (name : List ℕ) → is_bare name ≡ true → (b : ClassParts) × (class_named program name ≡ Some b) × (nat_eq (own_count b) 0 ≡ true) × (is_bare_above b.superclass ≡ true)
bare_there program loads name h = by (built_in_named the_builtins name) refl h
  where
    by : (o : Option ClassParts) → built_in_named the_builtins name ≡ o → (elim o as (λ _. Bool) [ None ↦ false | Some c ↦ not (same_text name string_class) ]) ≡ true
        → (b : ClassParts) × (class_named program name ≡ Some b) × (nat_eq (own_count b) 0 ≡ true) × (is_bare_above b.superclass ≡ true)
    by None q n = cc
    by (Some b) q n =
        let own : b.name ≡ name = (bytes_decides b.name name).0 (class_name_is [] name b q) in
        let rest : (nat_eq (own_count b) 0 && is_bare_above b.superclass) ≡ true = other_than (same_text b.name string_class) (nat_eq (own_count b) 0 && is_bare_above b.superclass) (built_in_passes passes the_builtins name b all_pass q) (subst (λ x. not (same_text x string_class) ≡ true) (sym own) n) in
        let both : (nat_eq (own_count b) 0 ≡ true) × (is_bare_above b.superclass ≡ true) = both_true (nat_eq (own_count b) 0) (is_bare_above b.superclass) rest in
        (b, built_in_there program loads name b q, both.0, both.1)

bare_count : (program : List ClassParts) → Loads program → (n : ℕ) (name : List ℕ) → is_bare name ≡ true → sum_by own_count (up_from n program name) ≡ 0
bare_count program loads zero name h = refl
bare_count program loads (suc n) name h = by (bare_there program loads name h) (bare_count program loads n)
  where
    above : (o : Option (List ℕ)) → is_bare_above o ≡ true → ((s : List ℕ) → is_bare s ≡ true → sum_by own_count (up_from n program s) ≡ 0) → above_count n program o ≡ 0
    above None e ih = refl
    above (Some s) e ih = ih s e

    by : (b : ClassParts) × (class_named program name ≡ Some b) × (nat_eq (own_count b) 0 ≡ true) × (is_bare_above b.superclass ≡ true) → ((s : List ℕ) → is_bare s ≡ true → sum_by own_count (up_from n program s) ≡ 0) → sum_by own_count (up_from (suc n) program name) ≡ 0
    by (b, is, none, up) ih = omega (arith, up_count n program name b is, equal (own_count b) 0 none, above b.superclass up ih)

pub bare_fields : (program : List ClassParts) → Loads program → (name : List ℕ) → is_bare name ≡ true → length (instance_fields program name) ≡ 0
bare_fields program loads name h = fields_counted program name ∙ bare_count program loads (height program) name h

-- String has its array of chars
pub string_fields : (program : List ClassParts) → Loads program → length (instance_fields program string_class) ≡ 1
string_fields program loads = fields_counted program string_class ∙ subst (λ h. sum_by own_count (up_from h program string_class) ≡ 1) (sym tall) (one (length program + 28))
  where
    tall : height program ≡ suc (length program + 28)
    tall = let count : length the_builtins ≡ 29 = refl in omega (arith, count)

    one : (n : ℕ) → sum_by own_count (up_from (suc n) program string_class) ≡ 1
    one n = by (built_in_named the_builtins string_class) refl
      where
        its : (b : ClassParts) → class_named program string_class ≡ Some b → own_count b ≡ 1 → b.superclass ≡ Some object_class → sum_by own_count (up_from (suc n) program string_class) ≡ 1
        its b is own up =
            let none : above_count n program b.superclass ≡ 0 = subst (λ o. above_count n program o ≡ 0) (sym up) (bare_count program loads n object_class refl) in
            omega (arith, up_count n program string_class b is, own, none)

        by : (o : Option ClassParts) → built_in_named the_builtins string_class ≡ o → sum_by own_count (up_from (suc n) program string_class) ≡ 1
        by None q = cc
        by (Some b) q =
            let own : own_count b ≡ 1 = ap (λ (o : Option ClassParts). elim o as (λ _. ℕ) [ None ↦ 1 | Some c ↦ own_count c ]) (sym q) in
            let up : b.superclass ≡ Some object_class = ap (λ (o : Option ClassParts). elim o as (λ _. Option (List ℕ)) [ None ↦ Some object_class | Some c ↦ c.superclass ]) (sym q) in
            its b (built_in_there program loads string_class b q) own up
