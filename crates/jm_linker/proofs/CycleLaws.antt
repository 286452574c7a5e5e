-- A class is above another where the walk up from the other finds it.
use Rattle.std.proofs.Common.{◌≡◌, ℕ, ◌<◌, zero, suc, Bool, true, false, ◌||◌, List, [], ◌∷◌, ◌++◌, Option, Some, None, length, get_or, refl, sym, ap, ◌∙◌, arith}
use Rattle.std.specs.Prelude.{is_some, option_to_list}
use Rattle.std.specs.Cmp.Lexicographic as std_text
use Rattle.std.proofs.lemmas.Cmp.{nat_list_eq_equiv}
use Rattle.jm_program.specs.Names.{same_text}
use Rattle.jm_program.specs.declared.class.ClassParts.{ClassParts}
use Rattle.jm_program.proofs.Texts.{text_is}
use Rattle.jm_builtins.specs.declared.built_in.BuiltIn.{BuiltIn}
use Rattle.jm_builtins.specs.List.{the_builtins}
use Rattle.jm_world.specs.Classes.{as_class, built_in_named, class_among, class_named, height}
use Rattle.jm_world.specs.Hierarchy.{parents, holds_of_any, is_below}
use Rattle.jm_world.specs.Resolution.{first_found, interfaces_first}
use Rattle.jm_world.proofs.FoundAgain.{has_own_name as has_name}
use Rattle.jm_linker.specs.Cycles.{is_above_itself}
use Rattle.jm_linker.specs.Walks.{above_from, above_any}

-- a class that is found has the name
built_in_has_name : (bs : List BuiltIn) (name : List ℕ) (c : ClassParts) → built_in_named bs name ≡ Some c → same_text c.name name ≡ true
built_in_has_name [] name c e = cc
built_in_has_name (b ∷ bs) name c e = by (built_in_has_name bs name c) (same_text b.name name) refl e
  where
    same : (d : ClassParts) → Some d ≡ Some c → c ≡ d
    same d g = cc

    by : (built_in_named bs name ≡ Some c → same_text c.name name ≡ true) → (t : Bool) → same_text b.name name ≡ t → (elim t as (λ _. Option ClassParts) [ true ↦ Some (as_class b) | false ↦ built_in_named bs name ]) ≡ Some c → same_text c.name name ≡ true
    by more true is g = ap (λ (d : ClassParts). same_text d.name name) (same (as_class b) g) ∙ is
    by more false is g = more g

among_has_name : (cs : List ClassParts) (name : List ℕ) (c : ClassParts) → class_among cs name ≡ Some c → same_text c.name name ≡ true
among_has_name [] name c e = built_in_has_name the_builtins name c e
among_has_name (k ∷ ks) name c e = by (among_has_name ks name c) (same_text k.name name) refl e
  where
    same : (d : ClassParts) → Some d ≡ Some c → c ≡ d
    same d g = cc

    by : (class_among ks name ≡ Some c → same_text c.name name ≡ true) → (t : Bool) → same_text k.name name ≡ t → (elim t as (λ _. Option ClassParts) [ true ↦ Some k | false ↦ class_among ks name ]) ≡ Some c → same_text c.name name ≡ true
    by more true is g = ap (λ (d : ClassParts). same_text d.name name) (same k g) ∙ is
    by more false is g = more g

-- a class of the program is found by its name
pub named_there : (cs : List ClassParts) (i : ℕ) (c : ClassParts) → i < length cs → c ≡ get_or cs i c → is_some (class_among cs c.name) ≡ true
named_there [] i c l is = absurd (omega arith)
named_there (k ∷ ks) zero c l is = by (same_text k.name c.name) (ap (λ (d : ClassParts). same_text d.name c.name) (sym is) ∙ nat_list_eq_equiv.refl c.name)
  where
    by : (t : Bool) → t ≡ true → is_some (elim t as (λ _. Option ClassParts) [ true ↦ Some k | false ↦ class_among ks c.name ]) ≡ true
    by true e = refl
    by false e = cc
named_there (k ∷ ks) (suc i) c l is = by (same_text k.name c.name) (named_there ks i c (omega arith) is)
  where
    by : (t : Bool) → is_some (class_among ks c.name) ≡ true → is_some (elim t as (λ _. Option ClassParts) [ true ↦ Some k | false ↦ class_among ks c.name ]) ≡ true
    by true e = refl
    by false e = e

pub found_by_its_name : (program : List ClassParts) (i : ℕ) (c d : ClassParts) → i < length program → c ≡ get_or program i c → d ≡ c
    → is_some (class_named program d.name) ≡ true
unfolding class_named
found_by_its_name program i c d l is same = ap (λ (k : ClassParts). is_some (class_among program k.name)) same ∙ named_there program i c l is

-- tests along lists
or_same : (a b : Bool) → (a || b) ≡ (b || a)
or_same true true = refl
or_same true false = refl
or_same false true = refl
or_same false false = refl

holds_append : (f : List ℕ → Bool) (xs ys : List (List ℕ)) → holds_of_any f (xs ++ ys) ≡ (holds_of_any f xs || holds_of_any f ys)
holds_append f [] ys = refl
holds_append f (x ∷ xs) ys = by (f x) (holds_append f xs ys)
  where
    by : (t : Bool) → holds_of_any f (xs ++ ys) ≡ (holds_of_any f xs || holds_of_any f ys) → (elim t as (λ _. Bool) [ true ↦ true | false ↦ holds_of_any f (xs ++ ys) ]) ≡ ((elim t as (λ _. Bool) [ true ↦ true | false ↦ holds_of_any f xs ]) || holds_of_any f ys)
    by true e = refl
    by false e = e

holds_swapped : (f : List ℕ → Bool) (xs ys : List (List ℕ)) → holds_of_any f (xs ++ ys) ≡ holds_of_any f (ys ++ xs)
holds_swapped f xs ys = holds_append f xs ys ∙ or_same (holds_of_any f xs) (holds_of_any f ys) ∙ sym (holds_append f ys xs)

found_some : (f : List ℕ → Bool) (g : List ℕ → Option ClassParts) → ((y : List ℕ) → f y ≡ is_some (g y)) → (xs : List (List ℕ)) → holds_of_any f xs ≡ is_some (first_found g xs)
found_some f g h [] = refl
found_some f g h (x ∷ xs) = ap (λ t. elim t as (λ _. Bool) [ true ↦ true | false ↦ holds_of_any f xs ]) (h x) ∙ by (g x) (found_some f g h xs)
  where
    by : (o : Option ClassParts) → holds_of_any f xs ≡ is_some (first_found g xs) → (elim (is_some o) as (λ _. Bool) [ true ↦ true | false ↦ holds_of_any f xs ]) ≡ is_some (elim o as (λ _. Option ClassParts) [ Some a ↦ Some a | None ↦ first_found g xs ])
    by None e = e
    by (Some c) e = refl

-- the walk up finds the class exactly where it is above
pub below_found : (n : ℕ) (program : List ClassParts) (x above : List ℕ) → is_some (class_named program above) ≡ true → is_below n program x above ≡ is_some (above_from (λ c. same_text c.name above) n program x)
unfolding above_from
below_found zero program x above known = refl
below_found (suc n) program x above known = by (λ k. found_some (λ y. is_below n program y above) (above_from (λ c. same_text c.name above) n program) (λ y. below_found n program y above known) (interfaces_first k)) (class_named program x) refl
  where
    missing : (t : Bool) → same_text x above ≡ t → class_named program x ≡ None → (elim t as (λ _. Bool) [ true ↦ true | false ↦ false ]) ≡ false
    missing false is e = refl
    missing true is e =
        let none : is_some (class_named program above) ≡ false = ap (λ (y : List ℕ). is_some (class_named program y)) (sym (text_is x above is)) ∙ ap is_some e in
        sym (sym none ∙ known)

    tested : (k : ClassParts) → holds_of_any (λ y. is_below n program y above) (interfaces_first k) ≡ is_some (first_found (above_from (λ c. same_text c.name above) n program) (interfaces_first k)) → (t : Bool) → (elim t as (λ _. Bool) [ true ↦ true | false ↦ holds_of_any (λ y. is_below n program y above) (parents (Some k)) ]) ≡ is_some (elim t as (λ _. Option ClassParts) [ true ↦ Some k | false ↦ first_found (above_from (λ c. same_text c.name above) n program) (interfaces_first k) ])
    tested k more true = refl
    tested k more false = holds_swapped (λ y. is_below n program y above) (option_to_list k.superclass) k.interfaces ∙ more

    by : ((k : ClassParts) → holds_of_any (λ y. is_below n program y above) (interfaces_first k) ≡ is_some (first_found (above_from (λ c. same_text c.name above) n program) (interfaces_first k))) → (o : Option ClassParts) → class_named program x ≡ o → (elim (same_text x above) as (λ _. Bool) [ true ↦ true | false ↦ holds_of_any (λ y. is_below n program y above) (parents o) ]) ≡ is_some (elim o as (λ _. Option ClassParts) [ None ↦ None | Some k ↦ elim (same_text k.name above) as (λ _. Option ClassParts) [ true ↦ Some k | false ↦ first_found (above_from (λ c. same_text c.name above) n program) (interfaces_first k) ] ])
    by up None e = missing (same_text x above) refl e
    by up (Some k) e =
        let same : same_text k.name above ≡ same_text x above = ap (λ (y : List ℕ). same_text y above) (text_is k.name x (has_name program x k e)) in
        tested k (up k) (same_text x above)
        ∙ ap (λ t. is_some (elim t as (λ _. Option ClassParts) [ true ↦ Some k | false ↦ first_found (above_from (λ c. same_text c.name above) n program) (interfaces_first k) ])) (sym same)

-- from the superclass, and from the superinterfaces
any_found : (program : List ClassParts) (above : List ℕ) (xs : List (List ℕ)) → is_some (class_named program above) ≡ true → holds_of_any (λ parent. is_below (height program) program parent above) xs ≡ is_some (above_any (λ c. same_text c.name above) (height program) program xs)
unfolding above_any
any_found program above xs known = found_some (λ parent. is_below (height program) program parent above) (above_from (λ c. same_text c.name above) (height program) program) (λ y. below_found (height program) program y above known) xs

parts_found : (program : List ClassParts) (c : ClassParts) → is_some (class_named program c.name) ≡ true → is_above_itself program c ≡ (is_some (above_any (λ k. same_text k.name c.name) (height program) program (option_to_list c.superclass)) || is_some (above_any (λ k. same_text k.name c.name) (height program) program c.interfaces))
parts_found program c known =
    holds_append (λ parent. is_below (height program) program parent c.name) (option_to_list c.superclass) c.interfaces
    ∙ ap (λ t. t || holds_of_any (λ parent. is_below (height program) program parent c.name) c.interfaces) (any_found program c.name (option_to_list c.superclass) known)
    ∙ ap (λ t. is_some (above_any (λ k. same_text k.name c.name) (height program) program (option_to_list c.superclass)) || t) (any_found program c.name c.interfaces known)

or_true : (a : Bool) → (a || true) ≡ true
or_true true = refl
or_true false = refl

super_list : (c : ClassParts) (name : List ℕ) (xs : List (List ℕ)) → c.superclass ≡ Some name → xs ≡ name ∷ [] → xs ≡ option_to_list c.superclass
super_list c name xs e f = f ∙ sym (ap option_to_list e)

pub above_by_superclass : (program : List ClassParts) (c d : ClassParts) (name : List ℕ) (xs : List (List ℕ)) → is_some (class_named program c.name) ≡ true → c.superclass ≡ Some name → xs ≡ name ∷ [] → Some d ≡ above_any (λ k. same_text k.name c.name) (height program) program xs → true ≡ is_above_itself program c
above_by_superclass program c d name xs known super one found =
    let some : is_some (above_any (λ k. same_text k.name c.name) (height program) program (option_to_list c.superclass)) ≡ true = ap (λ ys. is_some (above_any (λ k. same_text k.name c.name) (height program) program ys)) (sym (super_list c name xs super one)) ∙ ap is_some (sym found) in
    sym (parts_found program c known ∙ ap (λ t. t || is_some (above_any (λ k. same_text k.name c.name) (height program) program c.interfaces)) some)

pub above_by_interface : (program : List ClassParts) (c d : ClassParts) (xs : List (List ℕ)) → is_some (class_named program c.name) ≡ true → xs ≡ c.interfaces → Some d ≡ above_any (λ k. same_text k.name c.name) (height program) program xs → true ≡ is_above_itself program c
above_by_interface program c d xs known all found =
    let some : is_some (above_any (λ k. same_text k.name c.name) (height program) program c.interfaces) ≡ true = ap (λ ys. is_some (above_any (λ k. same_text k.name c.name) (height program) program ys)) (sym all) ∙ ap is_some (sym found) in
    sym (parts_found program c known ∙ ap (λ t. is_some (above_any (λ k. same_text k.name c.name) (height program) program (option_to_list c.superclass)) || t) some ∙ or_true (is_some (above_any (λ k. same_text k.name c.name) (height program) program (option_to_list c.superclass))))

none_of_none : (program : List ClassParts) (c : ClassParts) → c.superclass ≡ None → is_some (above_any (λ k. same_text k.name c.name) (height program) program (option_to_list c.superclass)) ≡ false
unfolding above_any
none_of_none program c e = ap (λ o. is_some (first_found (above_from (λ k. same_text k.name c.name) (height program) program) (option_to_list o))) e

pub not_above_alone : (program : List ClassParts) (c : ClassParts) (xs : List (List ℕ)) → is_some (class_named program c.name) ≡ true → c.superclass ≡ None → xs ≡ c.interfaces → None ≡ above_any (λ k. same_text k.name c.name) (height program) program xs → false ≡ is_above_itself program c
not_above_alone program c xs known super all none =
    let other : is_some (above_any (λ k. same_text k.name c.name) (height program) program c.interfaces) ≡ false = ap (λ ys. is_some (above_any (λ k. same_text k.name c.name) (height program) program ys)) (sym all) ∙ ap is_some (sym none) in
    sym (parts_found program c known ∙ ap (λ t. t || is_some (above_any (λ k. same_text k.name c.name) (height program) program c.interfaces)) (none_of_none program c super) ∙ other)

pub not_above : (program : List ClassParts) (c : ClassParts) (name : List ℕ) (ys xs : List (List ℕ)) → is_some (class_named program c.name) ≡ true → c.superclass ≡ Some name → ys ≡ name ∷ [] → None ≡ above_any (λ k. same_text k.name c.name) (height program) program ys → xs ≡ c.interfaces → None ≡ above_any (λ k. same_text k.name c.name) (height program) program xs → false ≡ is_above_itself program c
not_above program c name ys xs known super one no_super all none =
    let first : is_some (above_any (λ k. same_text k.name c.name) (height program) program (option_to_list c.superclass)) ≡ false = ap (λ zs. is_some (above_any (λ k. same_text k.name c.name) (height program) program zs)) (sym (super_list c name ys super one)) ∙ ap is_some (sym no_super) in
    let other : is_some (above_any (λ k. same_text k.name c.name) (height program) program c.interfaces) ≡ false = ap (λ zs. is_some (above_any (λ k. same_text k.name c.name) (height program) program zs)) (sym all) ∙ ap is_some (sym none) in
    sym (parts_found program c known ∙ ap (λ t. t || is_some (above_any (λ k. same_text k.name c.name) (height program) program c.interfaces)) first ∙ other)
