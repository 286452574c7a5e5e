-- In a program that loads, no class is above itself and each that is named right above one is there; the
-- built-in classes, too (JVMS 5.3.5).
use Rattle.std.proofs.Common.{◌≡◌, ℕ, zero, suc, ◌+◌, ◌*◌, ◌<◌, ◌≤◌, ◌⊎◌, inl, inr, Bool, true, false, ◌&&◌, List, [], ◌∷◌, ◌++◌, Option, Some, None, length, length-append, get_or, refl, sym, ap, subst, ◌∙◌, arith}
use Rattle.std.proofs.lemmas.Bool.{ltb-true}
use Rattle.std.proofs.lemmas.List.{length-map}
use Rattle.jm_values.proofs.Lists.{get_there}
use Rattle.std.specs.Prelude.{map, slice_get, is_some, nat_lt, option_to_list}
use Rattle.std.specs.List.{list_all}
use Rattle.jm_program.specs.Names.{same_text}
use Rattle.jm_program.specs.Flags.{is_interface}
use Rattle.jm_program.specs.declared.class.ClassParts.{ClassParts}
use Rattle.jm_program.proofs.Texts.{text_itself, text_is}
use Rattle.jm_program.proofs.Truths.{both_true as both}
use Rattle.jm_builtins.specs.declared.built_in.BuiltIn.{BuiltIn}
use Rattle.jm_builtins.specs.List.{the_builtins}
use Rattle.jm_world.specs.Classes.{as_class, built_in_named, class_named, height}
use Rattle.jm_world.specs.Hierarchy.{parents, holds_of_any, is_below}
use Rattle.jm_world.specs.Loads.{Loads, Refusal, refusal, or_else, when, cycle, no_class, duplicates, duplicate_members, first_of_all, parents_refusal, cycle_refusal, superclass_refusal, superclass_of_kind, interface_of_kind}
use Rattle.jm_world.proofs.Refusing.{none_of_all, both_none}
use Rattle.jm_world.proofs.FoundAgain.{has_own_name as has_name}
use Rattle.jm_linked.specs.Links.{class_numbered}
use Rattle.jm_linked.proofs.BuiltIns.{built_in_class}
use Rattle.jm_linker.specs.Orders.{AreThere}
use Rattle.jm_tables.proofs.ChainLaws.{any_more}

pub not_none : {A : Type 0} (o : Option A) → is_some o ≡ true → o ≡ None → ⊥
not_none o some none = let bad : true ≡ false = sym some ∙ ap is_some none in cc

-- tests along names
pub any_at : (f : List ℕ → Bool) (xs : List (List ℕ)) (i : ℕ) (x : List ℕ) → slice_get xs i ≡ Some x → f x ≡ true → holds_of_any f xs ≡ true
any_at f [] i x at e = cc
any_at f (y ∷ ys) zero x at e = let same : y ≡ x = cc in ap (λ t. elim t as (λ _. Bool) [ true ↦ true | false ↦ holds_of_any f ys ]) (ap f same ∙ e)
any_at f (y ∷ ys) (suc i) x at e = by (f y) (any_at f ys i x at e)
  where
    by : (t : Bool) → holds_of_any f ys ≡ true → (elim t as (λ _. Bool) [ true ↦ true | false ↦ holds_of_any f ys ]) ≡ true
    by true g = refl
    by false g = g

-- a class is below itself
pub below_itself : (program : List ClassParts) (n : ℕ) (name : List ℕ) → is_below (suc n) program name name ≡ true
below_itself program n name =
    ap (λ t. elim t as (λ _. Bool) [ true ↦ true | false ↦ holds_of_any (λ p. is_below n program p name) (parents (class_named program name)) ]) (text_itself name)

-- and below what is right above one that it is below
pub one_further : (program : List ClassParts) (n : ℕ) (name above : List ℕ) (c : ClassParts) (i : ℕ) (further : List ℕ)
    → class_named program above ≡ Some c → slice_get (parents (Some c)) i ≡ Some further → is_below n program name above ≡ true
    → is_below (suc n) program name further ≡ true
one_further program zero name above c i further is at e = cc
one_further program (suc n) name above c i further is at e = by (λ p h. one_further program n p above c i further is at h) (same_text name above) refl e
  where
    later : (t : Bool) → holds_of_any (λ p. is_below (suc n) program p further) (parents (class_named program name)) ≡ true
        → (elim t as (λ _. Bool) [ true ↦ true | false ↦ holds_of_any (λ p. is_below (suc n) program p further) (parents (class_named program name)) ]) ≡ true
    later true g = refl
    later false g = g

    by : ((p : List ℕ) → is_below n program p above ≡ true → is_below (suc n) program p further ≡ true) → (t : Bool) → same_text name above ≡ t
        → (elim t as (λ _. Bool) [ true ↦ true | false ↦ holds_of_any (λ p. is_below n program p above) (parents (class_named program name)) ]) ≡ true
        → is_below (suc (suc n)) program name further ≡ true
    by more true same g =
        let found : class_named program name ≡ Some c = ap (class_named program) (text_is name above same) ∙ is in
        later (same_text name further)
        (ap (λ o. holds_of_any (λ p. is_below (suc n) program p further) (parents o)) found
        ∙ any_at (λ p. is_below (suc n) program p further) (parents (Some c)) i further at (below_itself program n further))
    by more false same g =
        later (same_text name further)
        (any_more (λ p. is_below n program p above) (λ p. is_below (suc n) program p further) more (parents (class_named program name)) g)

-- built-in classes stand after their superclasses, interfaces right after Object
place_from : ℕ → List BuiltIn → List ℕ → ℕ
place_from k [] name = 0
place_from k (b ∷ bs) name = elim (same_text b.name name) [ true ↦ elim (is_interface b.flags) [ true ↦ 1 | false ↦ 2 * k ] | false ↦ place_from (suc k) bs name ]

place_of_built_in : List ℕ → ℕ
place_of_built_in name = place_from 0 the_builtins name

is_known_before : ℕ → List ℕ → Bool
is_known_before place name = is_some (built_in_named the_builtins name) && nat_lt (place_of_built_in name) place

comes_after : BuiltIn → Bool
comes_after b = list_all (is_known_before (place_of_built_in b.name)) (parents (Some (as_class b)))

each_comes_after : list_all comes_after the_builtins ≡ true
unfolding comes_after is_known_before place_of_built_in place_from
each_comes_after = refl

-- names that are there
pub there_at : (program : List ClassParts) (names : List (List ℕ)) (i : ℕ) (name : List ℕ) → AreThere program names → i < length names
    → name ≡ get_or names i name → is_some (class_named program name) ≡ true
there_at program [] i name all l is = absurd (omega arith)
there_at program (x ∷ xs) zero name all l is =
    ap (λ (y : List ℕ). is_some (class_named program y)) is
    ∙ (both (is_some (class_named program x)) (list_all (λ y. is_some (class_named program y)) xs) all).0
there_at program (x ∷ xs) (suc i) name all l is =
    there_at program xs i name (both (is_some (class_named program x)) (list_all (λ y. is_some (class_named program y)) xs) all).1 (omega arith) is

pub there_left : (program : List ClassParts) (names more : List (List ℕ)) → AreThere program (names ++ more) → AreThere program names
there_left program [] more all = refl
there_left program (x ∷ xs) more all =
    let parts = both (is_some (class_named program x)) (list_all (λ y. is_some (class_named program y)) (xs ++ more)) all in
    rw parts.0 (there_left program xs more parts.1)

pub there_right : (program : List ClassParts) (names more : List (List ℕ)) → AreThere program (names ++ more) → AreThere program more
there_right program [] more all = all
there_right program (x ∷ xs) more all =
    there_right program xs more (both (is_some (class_named program x)) (list_all (λ y. is_some (class_named program y)) (xs ++ more)) all).1

-- there is a class of each number below how many there are
pub numbered_there : (program : List ClassParts) (n : ℕ) → n < height program → is_some (class_numbered program n) ≡ true
numbered_there program n l =
    let many : length (map as_class the_builtins ++ program) ≡ length (map as_class the_builtins) + length program = length-append (map as_class the_builtins) program in
    let mapped : length (map as_class the_builtins) ≡ length the_builtins = length-map the_builtins as_class in
    let there = get_there (map as_class the_builtins ++ program) n (omega (arith, l, many, mapped)) in
    ap is_some there.1

module _ (program : List ClassParts) (loads : Loads program) where
  -- the class that is found under a built-in name comes after what is right above it
  built_in_after : (bs : List BuiltIn) (name : List ℕ) (c : ClassParts) → list_all comes_after bs ≡ true → built_in_named bs name ≡ Some c
      → list_all (is_known_before (place_of_built_in c.name)) (parents (Some c)) ≡ true
  unfolding comes_after
  built_in_after [] name c all e = cc
  built_in_after (b ∷ bs) name c all e = by (built_in_after bs name c (both (comes_after b) (list_all comes_after bs) all).1) (same_text b.name name) e
    where
      same : Some (as_class b) ≡ Some c → as_class b ≡ c
      same g = cc

      by : (built_in_named bs name ≡ Some c → list_all (is_known_before (place_of_built_in c.name)) (parents (Some c)) ≡ true) → (t : Bool)
          → (elim t as (λ _. Option ClassParts) [ true ↦ Some (as_class b) | false ↦ built_in_named bs name ]) ≡ Some c
          → list_all (is_known_before (place_of_built_in c.name)) (parents (Some c)) ≡ true
      by more true g = subst (λ (k : ClassParts). list_all (is_known_before (place_of_built_in k.name)) (parents (Some k)) ≡ true) (same g)
          (both (comes_after b) (list_all comes_after bs) all).0
      by more false g = more g

  parts_known : (place : ℕ) (name : List ℕ) → is_known_before place name ≡ true
      → (is_some (built_in_named the_builtins name) ≡ true) × (place_of_built_in name < place)
  unfolding is_known_before
  parts_known place name e =
      let parts = both (is_some (built_in_named the_builtins name)) (nat_lt (place_of_built_in name) place) e in
      (parts.0, ltb-true (place_of_built_in name) place parts.1)

  none_reaches : (f : List ℕ → Bool) (place : ℕ) → ((name : List ℕ) → is_known_before place name ≡ true → f name ≡ false) → (names : List (List ℕ))
      → list_all (is_known_before place) names ≡ true → holds_of_any f names ≡ false
  none_reaches f place h [] all = refl
  none_reaches f place h (x ∷ xs) all =
      let parts = both (is_known_before place x) (list_all (is_known_before place) xs) all in
      ap (λ t. elim t as (λ _. Bool) [ true ↦ true | false ↦ holds_of_any f xs ]) (h x parts.0) ∙ none_reaches f place h xs parts.1

  -- a built-in class is not below one that stands later
  not_below_later : (n : ℕ) (name above : List ℕ) → is_some (built_in_named the_builtins name) ≡ true → place_of_built_in name < place_of_built_in above
      → is_below n program name above ≡ false
  not_below_later zero name above known l = refl
  not_below_later (suc n) name above known l = by (λ y k less. not_below_later n y above k less) (same_text name above) refl
    where
      up : ((y : List ℕ) → is_some (built_in_named the_builtins y) ≡ true → place_of_built_in y < place_of_built_in above → is_below n program y above ≡ false)
          → (o : Option ClassParts) → class_named program name ≡ o → holds_of_any (λ p. is_below n program p above) (parents o) ≡ false
      up more None e = refl
      up more (Some c) e =
          let named : c.name ≡ name = text_is c.name name (has_name program name c e) in
          let found : built_in_named the_builtins name ≡ Some c = sym (built_in_class program loads name known) ∙ e in
          none_reaches (λ p. is_below n program p above) (place_of_built_in c.name)
          (λ y k. let parts = parts_known (place_of_built_in c.name) y k in let low = parts.1 in let same : place_of_built_in c.name ≡ place_of_built_in name = ap place_of_built_in named in
          more y parts.0 (omega (arith, low, same, l)))
          (parents (Some c)) (built_in_after the_builtins name c each_comes_after found)

      by : ((y : List ℕ) → is_some (built_in_named the_builtins y) ≡ true → place_of_built_in y < place_of_built_in above → is_below n program y above ≡ false)
          → (t : Bool) → same_text name above ≡ t
          → (elim t as (λ _. Bool) [ true ↦ true | false ↦ holds_of_any (λ p. is_below n program p above) (parents (class_named program name)) ]) ≡ false
      by more true e = let same : place_of_built_in name ≡ place_of_built_in above = ap place_of_built_in (text_is name above e) in absurd (omega (arith, same, l))
      by more false e = up more (class_named program name) refl

  -- a class by its number is a built-in one, which comes after those right above it, or one of the program's
  of_either : (bs : List BuiltIn) (cs : List ClassParts) (n : ℕ) (c : ClassParts) → list_all comes_after bs ≡ true → slice_get (map as_class bs ++ cs) n ≡ Some c
      → (list_all (is_known_before (place_of_built_in c.name)) (parents (Some c)) ≡ true) ⊎ ((k : ℕ) × (slice_get cs k ≡ Some c))
  unfolding comes_after
  of_either [] cs n c all at = inr (n, at)
  of_either (b ∷ bs) cs zero c all at =
      let same : as_class b ≡ c = cc in
      inl (subst (λ (k : ClassParts). list_all (is_known_before (place_of_built_in k.name)) (parents (Some k)) ≡ true) same
      (both (comes_after b) (list_all comes_after bs) all).0)
  of_either (b ∷ bs) cs (suc n) c all at = of_either bs cs n c (both (comes_after b) (list_all comes_after bs) all).1 at

  -- what is asked of each of its classes
  pub own_parents : (k : ℕ) (c : ClassParts) → slice_get program k ≡ Some c → parents_refusal program c ≡ None
  unfolding refusal
  own_parents k c at =
      let members = (both_none (duplicates [] program) _ loads).1 in
      let above = (both_none (first_of_all duplicate_members program) _ members).1 in
      none_of_all (parents_refusal program) program k c (both_none (first_of_all (parents_refusal program) program) _ above).0 at

  own_cycle : (k : ℕ) (c : ClassParts) → slice_get program k ≡ Some c → cycle_refusal program c ≡ None
  unfolding refusal
  own_cycle k c at =
      let members = (both_none (duplicates [] program) _ loads).1 in
      let above = (both_none (first_of_all duplicate_members program) _ members).1 in
      let cycles = (both_none (first_of_all (parents_refusal program) program) _ above).1 in
      none_of_all (cycle_refusal program) program k c (both_none (first_of_all (cycle_refusal program) program) _ cycles).0 at

  -- no class is above itself
  pub none_above_itself : (n : ℕ) (c : ClassParts) → class_numbered program n ≡ Some c
      → holds_of_any (λ parent. is_below (height program) program parent c.name) (parents (Some c)) ≡ false
  none_above_itself n c at = by (of_either the_builtins program n c each_comes_after at)
    where
      not_so : (b : Bool) → when b (cycle c.name) ≡ None → b ≡ false
      not_so true e = cc
      not_so false e = refl

      by : (list_all (is_known_before (place_of_built_in c.name)) (parents (Some c)) ≡ true) ⊎ ((k : ℕ) × (slice_get program k ≡ Some c))
          → holds_of_any (λ parent. is_below (height program) program parent c.name) (parents (Some c)) ≡ false
      by (inl after) =
          none_reaches (λ parent. is_below (height program) program parent c.name) (place_of_built_in c.name)
          (λ y k. let parts = parts_known (place_of_built_in c.name) y k in not_below_later (height program) y c.name parts.0 parts.1) (parents (Some c)) after
      by (inr (k, own)) = not_so (holds_of_any (λ parent. is_below (height program) program parent c.name) (parents (Some c))) (own_cycle k c own)

  -- each that is named right above a class is there
  known_there : (place : ℕ) (names : List (List ℕ)) → list_all (is_known_before place) names ≡ true → AreThere program names
  known_there place [] all = refl
  known_there place (x ∷ xs) all =
      let parts = both (is_known_before place x) (list_all (is_known_before place) xs) all in
      let known = (parts_known place x parts.0).0 in
      let there : is_some (class_named program x) ≡ true = ap is_some (built_in_class program loads x known) ∙ known in
      rw there (known_there place xs parts.1)

  there_both : (names more : List (List ℕ)) → AreThere program names → AreThere program more → AreThere program (names ++ more)
  there_both [] more a b = b
  there_both (x ∷ xs) more a b =
      let parts = both (is_some (class_named program x)) (list_all (λ name. is_some (class_named program name)) xs) a in
      rw parts.0 (there_both xs more parts.1 b)

  super_there : (c : ClassParts) (s : Option (List ℕ)) → superclass_refusal program c s ≡ None → AreThere program (option_to_list s)
  super_there c None e = refl
  super_there c (Some name) e = by (class_named program name) e
    where
      by : (o : Option ClassParts) → superclass_of_kind c name o ≡ None → (is_some o && true) ≡ true
      by None g = cc
      by (Some above) g = refl

  interfaces_there : (names : List (List ℕ)) → first_of_all (λ name. interface_of_kind name (class_named program name)) names ≡ None → AreThere program names
  interfaces_there [] e = refl
  interfaces_there (x ∷ xs) e =
      let parts = both_none (interface_of_kind x (class_named program x)) (first_of_all (λ name. interface_of_kind name (class_named program name)) xs) e in
      let there : is_some (class_named program x) ≡ true = by (class_named program x) parts.0 in
      rw there (interfaces_there xs parts.1)
    where
      by : (o : Option ClassParts) → interface_of_kind x o ≡ None → is_some o ≡ true
      by None g = cc
      by (Some k) g = refl

  pub all_there : (n : ℕ) (c : ClassParts) → class_numbered program n ≡ Some c → AreThere program (parents (Some c))
  all_there n c at = by (of_either the_builtins program n c each_comes_after at)
    where
      by : (list_all (is_known_before (place_of_built_in c.name)) (parents (Some c)) ≡ true) ⊎ ((k : ℕ) × (slice_get program k ≡ Some c))
          → AreThere program (parents (Some c))
      by (inl after) = known_there (place_of_built_in c.name) (parents (Some c)) after
      by (inr (k, own)) =
          let parts = both_none (superclass_refusal program c c.superclass)
          (first_of_all (λ name. interface_of_kind name (class_named program name)) c.interfaces) (own_parents k c own) in
          there_both (option_to_list c.superclass) c.interfaces (super_there c c.superclass parts.0) (interfaces_there c.interfaces parts.1)
