-- The names of a program's classes: no two classes have one, and each is found under its own.
use Rattle.std.proofs.Common.{◌≡◌, ℕ, zero, suc, ◌+◌, ◌<◌, ◌⊎◌, inl, inr, List, [], ◌∷◌, ◌++◌, Option, Some, None, Bool, true, false, not, length}
use Rattle.std.proofs.Common.{refl, sym, ap, ◌∙◌, subst, arith, eq-eqb, eqb-true}
use Rattle.std.specs.Prelude.{map, nat_eq, slice_get, slice_index_or, is_some, ◌&&◌}
use Rattle.std.specs.List.{AllByRecursion}
use Rattle.std.specs.Cmp.Lexicographic as texts
use Rattle.jm_program.specs.Names.{same_text}
use Rattle.jm_program.specs.declared.class.ClassParts.{ClassParts}
use Rattle.jm_program.proofs.Texts.{text_itself}
use Rattle.jm_program.proofs.Truths.{both_true as both, not_true, right_false}
use Rattle.jm_program.proofs.Numbers.{found_unequal as unlike}
use Rattle.jm_builtins.specs.List.{the_builtins}
use Rattle.jm_builtins.specs.Numbers.{built_in_names}
use Rattle.jm_builtins.specs.declared.built_in.BuiltIn.{BuiltIn}
use Rattle.jm_world.specs.Classes.{as_class, built_in_named, class_named}
use Rattle.jm_world.specs.Loads.{Loads, duplicates, duplicate_class, is_named_among, when}
use Rattle.jm_world.proofs.Refusing.{not_refused, first_none, second_none}
use Rattle.jm_tables.specs.Numbering.{AreNames, name_of}
use Rattle.jm_linked.specs.Links.{class_numbered}
use Rattle.jm_linked.specs.Tables.{all_names}
use Rattle.jm_linked.proofs.BuiltIns.{built_in_class}
use Rattle.jm_linked.proofs.Classes.{class_is, distinct, left_false}

-- a text is none of those
abbrev Others : List ℕ → List (List ℕ) → Type 0
Others x xs = AllByRecursion (λ y. same_text x y ≡ false) xs

-- no two are the same
abbrev Apart : List (List ℕ) → Type 0
Apart [] = Unit {0}
Apart (x ∷ xs) = Others x xs × Apart xs

is_other : List ℕ → List (List ℕ) → Bool
is_other x [] = true
is_other x (y ∷ ys) = not (same_text x y) && is_other x ys

are_apart : List (List ℕ) → Bool
are_apart [] = true
are_apart (x ∷ xs) = is_other x xs && are_apart xs

others_are : (x : List ℕ) (xs : List (List ℕ)) → is_other x xs ≡ true → Others x xs
unfolding is_other
others_are x [] e = tt
others_are x (y ∷ ys) e = let parts = both (not (same_text x y)) (is_other x ys) e in (not_true (same_text x y) parts.0, others_are x ys parts.1)

apart_are : (xs : List (List ℕ)) → are_apart xs ≡ true → Apart xs
unfolding are_apart
apart_are [] e = tt
apart_are (x ∷ xs) e = let parts = both (is_other x xs) (are_apart xs) e in (others_are x xs parts.0, apart_are xs parts.1)

built_ins_apart : are_apart built_in_names ≡ true
unfolding are_apart is_other
built_ins_apart = refl

other_way : (x y : List ℕ) → same_text x y ≡ false → same_text y x ≡ false
other_way x y e = by (same_text y x) refl
  where
    by : (b : Bool) → same_text y x ≡ b → same_text y x ≡ false
    by false t = t
    by true t =
        let is : y ≡ x = texts.same_text y x (sym t) in
        let bad : true ≡ false = sym (text_itself x) ∙ ap (same_text x) (sym is) ∙ e in
        cc

none_at : (x : List ℕ) (xs : List (List ℕ)) (n : ℕ) → Others x xs → n < length xs → same_text x (slice_index_or xs n []) ≡ false
none_at x [] n o l = absurd (omega arith)
none_at x (y ∷ ys) zero o l = o.0
none_at x (y ∷ ys) (suc n) o l = none_at x ys n o.1 (omega arith)

eq_suc : (a b : ℕ) → nat_eq a b ≡ nat_eq (suc a) (suc b)
eq_suc a b = by (nat_eq a b) refl
  where
    by : (t : Bool) → nat_eq a b ≡ t → nat_eq a b ≡ nat_eq (suc a) (suc b)
    by true is = is ∙ sym (eq-eqb (suc a) (suc b) (ap (λ n. suc n) (eqb-true a b is)))
    by false is = is ∙ sym (unlike (suc a) (suc b) (λ same. let less : a ≡ b = omega (arith, same) in let bad = eq-eqb a b less in cc))

apart_at : (xs : List (List ℕ)) (a b : ℕ) → Apart xs → a < length xs → b < length xs → same_text (slice_index_or xs a []) (slice_index_or xs b []) ≡ nat_eq
    a b
apart_at [] a b o l m = absurd (omega arith)
apart_at (x ∷ xs) zero zero o l m = text_itself x ∙ sym (eq-eqb 0 0 refl)
apart_at (x ∷ xs) zero (suc b) o l m = none_at x xs b o.0 (omega arith) ∙ sym (unlike 0 (suc b) (λ same. omega (arith, same)))
apart_at (x ∷ xs) (suc a) zero o l m = other_way x (slice_index_or xs a []) (none_at x xs a o.0 (omega arith)) ∙ sym
    (unlike (suc a) 0 (λ same. omega (arith, same)))
apart_at (x ∷ xs) (suc a) (suc b) o l m = apart_at xs a b o.1 (omega arith) (omega arith) ∙ eq_suc a b

none_of_both : (x : List ℕ) (xs ys : List (List ℕ)) → Others x xs → Others x ys → Others x (xs ++ ys)
none_of_both x [] ys o p = p
none_of_both x (z ∷ zs) ys o p = (o.0, none_of_both x zs ys o.1 p)

apart_both : (xs ys : List (List ℕ)) → Apart xs → Apart ys → AllByRecursion (λ x. Others x ys) xs → Apart (xs ++ ys)
apart_both [] ys a b c = b
apart_both (x ∷ xs) ys a b c = (none_of_both x xs ys a.0 c.0, apart_both xs ys a.1 b c.1)

-- a text that no class has that stands before classes, or that is one of those before, is none of theirs
after_one : (x : List ℕ) (seen cs : List ClassParts) → ((name : List ℕ) → is_named_among seen name ≡ false → same_text x name ≡ false)
    → duplicates seen cs ≡ None → Others x (map (λ c. c.name) cs)
after_one x seen [] h e = tt
after_one x seen (c ∷ cs) h e =
    let first = not_refused (is_named_among seen c.name) (duplicate_class c.name)
    (first_none (when (is_named_among seen c.name) (duplicate_class c.name)) (duplicates (c ∷ seen) cs) e) in
    let rest = second_none (when (is_named_among seen c.name) (duplicate_class c.name)) (duplicates (c ∷ seen) cs) e in
    (h c.name first, after_one x (c ∷ seen) cs (λ name g. h name (right_false (same_text c.name name) (is_named_among seen name) g)) rest)

program_apart : (seen cs : List ClassParts) → duplicates seen cs ≡ None → Apart (map (λ c. c.name) cs)
program_apart seen [] e = tt
program_apart seen (c ∷ cs) e =
    let rest = second_none (when (is_named_among seen c.name) (duplicate_class c.name)) (duplicates (c ∷ seen) cs) e in
    (after_one c.name (c ∷ seen) cs (λ name g. left_false (same_text c.name name) (is_named_among seen name) g) rest, program_apart (c ∷ seen) cs rest)

head_not : (b : BuiltIn) (bs : List BuiltIn) (name : List ℕ) → is_some (built_in_named (b ∷ bs) name) ≡ false → same_text b.name name ≡ false
head_not b bs name e = by (same_text b.name name) refl e
  where
    by : (t : Bool) → same_text b.name name ≡ t → is_some
        (elim t as (λ _. Option ClassParts) [ true ↦ Some (as_class b) | false ↦ built_in_named bs name ]) ≡ false
        → same_text b.name name ≡ false
    by true is g = cc
    by false is g = is

tail_not : (b : BuiltIn) (bs : List BuiltIn) (name : List ℕ) → is_some (built_in_named (b ∷ bs) name) ≡ false → is_some (built_in_named bs name) ≡ false
tail_not b bs name e = by (same_text b.name name) e
  where
    by : (t : Bool) → is_some (elim t as (λ _. Option ClassParts) [ true ↦ Some (as_class b) | false ↦ built_in_named bs name ]) ≡ false
        → is_some (built_in_named bs name) ≡ false
    by true g = cc
    by false g = g

-- the built-in classes' names are none of the program's
between : (bs : List BuiltIn) (program : List ClassParts) →
    ((name : List ℕ) → is_some (built_in_named the_builtins name) ≡ false → is_some (built_in_named bs name) ≡ false)
    → duplicates [] program ≡ None → AllByRecursion (λ x. Others x (map (λ c. c.name) program)) (map (λ b. b.name) bs)
between [] program h e = tt
between (b ∷ bs) program h e =
    (after_one b.name [] program (λ name g. head_not b bs name (h name g)) e, between bs program (λ name g. tail_not b bs name (h name g)) e)

length_names : (bs : List BuiltIn) (cs : List ClassParts) → length (map (λ (b : BuiltIn). b.name) bs ++ map (λ (c : ClassParts). c.name) cs) ≡ length cs +
    length bs
length_names [] [] = refl
length_names [] (c ∷ cs) = let rest = length_names [] cs in omega (arith, rest)
length_names (b ∷ bs) cs = let rest = length_names bs cs in omega (arith, rest)

pub are_names : (program : List ClassParts) → Loads program → AreNames program (all_names program)
unfolding all_names
are_names program loads =
    let once = distinct program loads in
    let own = map (λ (c : ClassParts). c.name) program in
    let apart = apart_both built_in_names own (apart_are built_in_names built_ins_apart) (program_apart [] program once)
    (between the_builtins program (λ name g. g) once) in
    record { many = length_names the_builtins program; apart = λ a b l m. apart_at (built_in_names ++ own) a b apart l m }

-- a built-in class is found under its name
other_at : (x : List ℕ) (bs : List BuiltIn) (n : ℕ) (b : BuiltIn) → Others x (map (λ b. b.name) bs) → slice_get bs n ≡ Some b → same_text x b.name ≡ false
other_at x [] n b o at = cc
other_at x (d ∷ bs) zero b o at = let same : d ≡ b = cc in subst (λ (y : BuiltIn). same_text x y.name ≡ false) same o.0
other_at x (d ∷ bs) (suc n) b o at = other_at x bs n b o.1 at

built_in_at : (bs : List BuiltIn) (n : ℕ) (b : BuiltIn) → Apart (map (λ b. b.name) bs) → slice_get bs n ≡ Some b → built_in_named bs b.name ≡ Some
    (as_class b)
built_in_at [] n b o at = cc
built_in_at (d ∷ bs) zero b o at =
    let same : d ≡ b = cc in
    ap (λ (x : BuiltIn). elim (same_text x.name b.name) as (λ _. Option ClassParts) [ true ↦ Some (as_class x) | false ↦ built_in_named bs b.name ]) same
    ∙ ap (λ t. elim t as (λ _. Option ClassParts) [ true ↦ Some (as_class b) | false ↦ built_in_named bs b.name ]) (text_itself b.name)
built_in_at (d ∷ bs) (suc n) b o at =
    ap (λ t. elim t as (λ _. Option ClassParts) [ true ↦ Some (as_class d) | false ↦ built_in_named bs b.name ]) (other_at d.name bs n b o.0 at)
    ∙ built_in_at bs n b o.1 at

-- a class by its number is a built-in one or one of the program's
of_either : (bs : List BuiltIn) (cs : List ClassParts) (n : ℕ) (c : ClassParts) → slice_get (map as_class bs ++ cs) n ≡ Some c
    → ((b : BuiltIn) × (slice_get bs n ≡ Some b) × (as_class b ≡ c)) ⊎ ((k : ℕ) × (slice_get cs k ≡ Some c))
of_either [] cs n c at = inr (n, at)
of_either (b ∷ bs) cs zero c at = let same : as_class b ≡ c = cc in inl (b, refl, same)
of_either (b ∷ bs) cs (suc n) c at = of_either bs cs n c at

name_at : (bs : List BuiltIn) (cs : List ClassParts) (n : ℕ) (c : ClassParts) → slice_get (map as_class bs ++ cs) n ≡ Some c
    → slice_index_or (map (λ (b : BuiltIn). b.name) bs ++ map (λ (c : ClassParts). c.name) cs) n [] ≡ c.name
name_at [] [] n c at = cc
name_at [] (d ∷ cs) zero c at = let same : d ≡ c = cc in ap (λ (x : ClassParts). x.name) same
name_at [] (d ∷ cs) (suc n) c at = name_at [] cs n c at
name_at (b ∷ bs) cs zero c at = let same : as_class b ≡ c = cc in ap (λ (x : ClassParts). x.name) same
name_at (b ∷ bs) cs (suc n) c at = name_at bs cs n c at

pub name_numbered : (program : List ClassParts) (n : ℕ) (c : ClassParts) → class_numbered program n ≡ Some c → name_of (all_names program) n ≡ c.name
unfolding all_names
name_numbered program n c at = name_at the_builtins program n c at

some_is : (o : Option ClassParts) (c : ClassParts) → o ≡ Some c → is_some o ≡ true
some_is o c e = ap is_some e

pub found_numbered : (program : List ClassParts) → Loads program → (n : ℕ) (c : ClassParts) → class_numbered program n ≡ Some c → class_named program
    c.name ≡ Some c
found_numbered program loads n c at = by (of_either the_builtins program n c at)
  where
    by : ((b : BuiltIn) × (slice_get the_builtins n ≡ Some b) × (as_class b ≡ c)) ⊎ ((k : ℕ) × (slice_get program k ≡ Some c)) → class_named program
        c.name ≡ Some c
    by (inl (b, is, same)) =
        let own = built_in_at the_builtins n b (apart_are built_in_names built_ins_apart) is in
        subst (λ (x : ClassParts). class_named program x.name ≡ Some x) same (built_in_class program loads b.name (some_is _ (as_class b) own) ∙ own)
    by (inr (k, is)) = class_is program loads k c is
