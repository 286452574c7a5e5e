-- Where each class has a higher rank than those right above it, no class is above itself.
use Rattle.std.proofs.Common.{◌≡◌, ℕ, ◌+◌, ◌<◌, ◌≤◌, zero, suc, Bool, true, false, ◌&&◌, List, [], ◌∷◌, ◌++◌, Option, Some, None, length, get_or, drop, refl, sym, ap, subst, ◌∙◌, arith}
use Rattle.std.proofs.lemmas.List.{drop_all, drop_more}
use Rattle.std.specs.Prelude.{map, option_to_list, slice_index_or}
use Rattle.std.specs.List.{list_all}
use Rattle.jm_program.specs.Names.{same_text}
use Rattle.jm_program.specs.declared.class.ClassParts.{ClassParts}
use Rattle.jm_program.proofs.Truths.{both_true as both}
use Rattle.jm_program.proofs.Texts.{text_is}
use Rattle.jm_world.specs.Classes.{class_among, class_named, height}
use Rattle.jm_world.specs.Hierarchy.{parents, holds_of_any, is_below}
use Rattle.jm_world.specs.Loads.{when, cycle, cycle_refusal}
use Rattle.jm_world.proofs.FoundAgain.{has_own_name as has_name}
use Rattle.jm_linker.specs.BuiltInClasses.{built_in_classes, class_in, number_from}
use Rattle.jm_linker.specs.Ranks.{rank_at, rank_of, is_under, is_superclass_under, are_parents_under, is_over_parents, has_none_over}
use Rattle.jm_linker.specs.declared.members.Members.{Members}
use Rattle.jm_linker.proofs.ClassLaws.{built_in_found}

all_append : (f : List ℕ → Bool) (xs ys : List (List ℕ)) → list_all f xs ≡ true → list_all f ys ≡ true → list_all f (xs ++ ys) ≡ true
all_append f [] ys e g = g
all_append f (x ∷ xs) ys e g = let is = both (f x) (list_all f xs) e in rw is.0 (all_append f xs ys is.1 g)

-- a loop over all of a list ends, or finds one that fails
pub all_left : {A : Type 0} (f : A → Bool) (xs : List A) (i : ℕ) → length xs ≤ i → list_all f xs ≡ list_all f (drop i xs) → list_all f xs ≡ true
all_left f xs i l e = e ∙ ap (list_all f) (drop_all i xs l)

pub not_all : {A : Type 0} (f : A → Bool) (xs : List A) (i : ℕ) (x : A) → i < length xs → x ≡ get_or xs i x → f x ≡ false → list_all f xs ≡ list_all f (drop i xs) → list_all f xs ≡ false
not_all f xs i x l is fails e =
    let here : list_all f (drop i xs) ≡ (f x && list_all f (drop (i + 1) xs)) = rw (drop_more xs i x l, ← is) refl in
    e ∙ here ∙ ap (λ b. b && list_all f (drop (i + 1) xs)) fails

-- the names right above a class are under the rank
parents_under : (program : List ClassParts) (ranks : List ℕ) (rank : ℕ) (c : ClassParts) → are_parents_under program ranks rank c ≡ true → list_all (is_under program ranks rank) (parents (Some c)) ≡ true
parents_under program ranks rank c e =
    let is = both (is_superclass_under program ranks rank c.superclass) (list_all (is_under program ranks rank) c.interfaces) e in
    all_append (is_under program ranks rank) (option_to_list c.superclass) c.interfaces (by c.superclass is.0) is.1
  where
    by : (s : Option (List ℕ)) → is_superclass_under program ranks rank s ≡ true → list_all (is_under program ranks rank) (option_to_list s) ≡ true
    by None g = refl
    by (Some name) g = rw g refl

-- where all of some names are under a rank, none of them reaches what only those of the rank reach
none_of : (program : List ClassParts) (ranks : List ℕ) (rank : ℕ) (f : List ℕ → Bool) → ((y : List ℕ) → rank_of program ranks y < rank → f y ≡ false) → (xs : List (List ℕ)) → list_all (is_under program ranks rank) xs ≡ true → holds_of_any f xs ≡ false
none_of program ranks rank f h [] e = refl
none_of program ranks rank f h (x ∷ xs) e =
    let is = both (is_under program ranks rank x) (list_all (is_under program ranks rank) xs) e in
    let under : rank_of program ranks x < rank = grind (arith, is.0) in
    ap (λ t. elim t as (λ _. Bool) [ true ↦ true | false ↦ holds_of_any f xs ]) (h x under) ∙ none_of program ranks rank f h xs is.1

-- a class that is found is one of the program's or a built-in one
all_of : {A : Type 0} (f : A → Bool) (x : A) (xs : List A) → list_all f (x ∷ xs) ≡ true → (f x ≡ true) × (list_all f xs ≡ true)
all_of f x xs e = both (f x) (list_all f xs) e

found_in : (g : ClassParts → Bool) (P : ClassParts → Type 0) → ((c : ClassParts) → g c ≡ true → P c) → (cs : List ClassParts) (name : List ℕ) (c : ClassParts) → list_all g cs ≡ true → class_in cs name ≡ Some c → P c
found_in g P h [] name c all e = cc
found_in g P h (k ∷ ks) name c all e = by (found_in g P h ks name c (all_of g k ks all).1) (same_text k.name name) e
  where
    same : Some k ≡ Some c → c ≡ k
    same d = cc

    by : (class_in ks name ≡ Some c → P c) → (t : Bool) → (elim t as (λ _. Option ClassParts) [ true ↦ Some k | false ↦ class_in ks name ]) ≡ Some c → P c
    by more true d = subst P (sym (same d)) (h k (all_of g k ks all).0)
    by more false d = more d

-- where the program's classes and the built-in ones keep a rule, a class that is found keeps it
found_among : (f g : ClassParts → Bool) (P : ClassParts → Type 0) → ((c : ClassParts) → f c ≡ true → P c) → ((c : ClassParts) → g c ≡ true → P c) → (cs : List ClassParts) (name : List ℕ) (c : ClassParts) → list_all f cs ≡ true → list_all g built_in_classes ≡ true → class_among cs name ≡ Some c → P c
found_among f g P h i [] name c all built_in e = found_in g P i built_in_classes name c built_in (built_in_found name ∙ e)
found_among f g P h i (k ∷ ks) name c all built_in e = by (found_among f g P h i ks name c (all_of f k ks all).1 built_in) (same_text k.name name) e
  where
    same : Some k ≡ Some c → c ≡ k
    same d = cc

    by : (class_among ks name ≡ Some c → P c) → (t : Bool) → (elim t as (λ _. Option ClassParts) [ true ↦ Some k | false ↦ class_among ks name ]) ≡ Some c → P c
    by more true d = subst P (sym (same d)) (h k (all_of f k ks all).0)
    by more false d = more d

-- a lower rank is a lower rank than a higher one
under_more : (program : List ClassParts) (ranks : List ℕ) (low high : ℕ) → low ≤ high → (xs : List (List ℕ)) → list_all (is_under program ranks low) xs ≡ true → list_all (is_under program ranks high) xs ≡ true
under_more program ranks low high l [] e = refl
under_more program ranks low high l (x ∷ xs) e =
    let is = both (is_under program ranks low x) (list_all (is_under program ranks low) xs) e in
    let under : is_under program ranks high x ≡ true = grind (arith, is.0, l) in
    rw under (under_more program ranks low high l xs is.1)

abbrev NotOver : List ClassParts → List ℕ → ClassParts → Type 0
NotOver program ranks c = list_all (is_under program ranks (rank_of program ranks c.name + 1)) (parents (Some c)) ≡ true

-- no name right above another has a higher rank
none_over : (program : List ClassParts) (ranks : List ℕ) → list_all (has_none_over program ranks) program ≡ true → list_all (are_parents_under program ranks 1) built_in_classes ≡ true → (x : List ℕ) (c : ClassParts) → class_named program x ≡ Some c → list_all (is_under program ranks (rank_of program ranks x + 1)) (parents (Some c)) ≡ true
unfolding class_named
none_over program ranks all built_in x c e =
    let name : c.name ≡ x = text_is c.name x (has_name program x c e) in
    subst (λ y. list_all (is_under program ranks (rank_of program ranks y + 1)) (parents (Some c)) ≡ true) name
    (found_among (has_none_over program ranks) (are_parents_under program ranks 1) (NotOver program ranks)
    (λ k h. parents_under program ranks (rank_of program ranks k.name + 1) k h)
    (λ k h. under_more program ranks 1 (rank_of program ranks k.name + 1) (omega arith) (parents (Some k)) (parents_under program ranks 1 k h))
    program x c all built_in e)

-- so a name is not below one of a higher rank
not_below : (program : List ClassParts) (ranks : List ℕ) → ((x : List ℕ) (c : ClassParts) → class_named program x ≡ Some c → list_all (is_under program ranks (rank_of program ranks x + 1)) (parents (Some c)) ≡ true) → (n : ℕ) (x above : List ℕ) → rank_of program ranks x < rank_of program ranks above → is_below n program x above ≡ false
not_below program ranks over zero x above l = refl
not_below program ranks over (suc n) x above l = by (λ y u. not_below program ranks over n y above u) (same_text x above) refl
  where
    up : ((y : List ℕ) → rank_of program ranks y < rank_of program ranks above → is_below n program y above ≡ false) → (o : Option ClassParts) → class_named program x ≡ o → holds_of_any (λ parent. is_below n program parent above) (parents o) ≡ false
    up more None e = refl
    up more (Some c) e = none_of program ranks (rank_of program ranks x + 1) (λ parent. is_below n program parent above) (λ y u. more y (omega (arith, u, l))) (parents (Some c)) (over x c e)

    by : ((y : List ℕ) → rank_of program ranks y < rank_of program ranks above → is_below n program y above ≡ false) → (t : Bool) → same_text x above ≡ t → (elim t as (λ _. Bool) [ true ↦ true | false ↦ holds_of_any (λ parent. is_below n program parent above) (parents (class_named program x)) ]) ≡ false
    by more true e = let same : rank_of program ranks x ≡ rank_of program ranks above = ap (rank_of program ranks) (text_is x above e) in absurd (omega (arith, same, l))
    by more false e = up more (class_named program x) refl

no_cycle : (program : List ClassParts) (ranks : List ℕ) → list_all (has_none_over program ranks) program ≡ true → list_all (are_parents_under program ranks 1) built_in_classes ≡ true → (c : ClassParts) → is_over_parents program ranks c ≡ true → cycle_refusal program c ≡ None
no_cycle program ranks all built_in c e =
    ap (λ b. when b (cycle c.name))
    (none_of program ranks (rank_of program ranks c.name) (λ parent. is_below (height program) program parent c.name)
    (λ y l. not_below program ranks (none_over program ranks all built_in) (height program) y c.name l) (parents (Some c)) (parents_under program ranks (rank_of program ranks c.name) c e))

-- a class with a higher rank than those right above it is not above itself
pub over_all : (program : List ClassParts) (ranks : List ℕ) (c : ClassParts) (t u : Bool) → t ≡ (list_all (has_none_over program ranks) program && list_all (are_parents_under program ranks 1) built_in_classes) → t ≡ true → u ≡ is_over_parents program ranks c → u ≡ true → cycle_refusal program c ≡ None
over_all program ranks c t u e is f over =
    let all = both (list_all (has_none_over program ranks) program) (list_all (are_parents_under program ranks 1) built_in_classes) (sym e ∙ is) in
    no_cycle program ranks all.0 all.1 c (sym f ∙ over)

-- the rank of a name
pub ranked : (program : List ClassParts) (ranks name : List ℕ) (n r : ℕ) → number_from 0 program name ≡ Some n → r ≡ slice_index_or ranks n 0 → r ≡ rank_of program ranks name
unfolding rank_of
ranked program ranks name n r e f = f ∙ sym (ap (rank_at ranks) e)

pub not_numbered : (program : List ClassParts) (ranks name : List ℕ) → number_from 0 program name ≡ None → 0 ≡ rank_of program ranks name
unfolding rank_of
not_numbered program ranks name e = sym (ap (rank_at ranks) e)

-- a test of the classes among tables of members
all_map : (f : ClassParts → Bool) (ms : List Members) → list_all (λ (m : Members). f m.class.now) ms ≡ list_all f (map (λ (m : Members). m.class.now) ms)
all_map f [] = refl
all_map f (m ∷ ms) = ap (λ b. f m.class.now && b) (all_map f ms)

pub all_of_classes : (f : ClassParts → Bool) (ms : List Members) → map (λ (m : Members). m.class.now) ms ≡ built_in_classes → list_all (λ (m : Members). f m.class.now) ms ≡ list_all f built_in_classes
all_of_classes f ms e = all_map f ms ∙ ap (list_all f) e
