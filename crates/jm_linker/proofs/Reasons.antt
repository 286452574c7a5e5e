-- The first of several reasons.
use Rattle.std.proofs.Common.{◌≡◌, ℕ, ◌+◌, ◌<◌, Bool, true, false, not, List, [], Option, Some, None, Result, length, get_or, drop, refl, sym, ap, ◌∙◌, subst}
use Rattle.std.proofs.lemmas.List.{drop_more}
use Rattle.jm_world.specs.Loads.{Refusal, or_else, first_of_all, when, duplicates, duplicate_members, parents_refusal, cycle_refusal, is_main, no_main, method_code_refusal, refusal}
use Rattle.jm_world.specs.Loading.{main_in}
use Rattle.jm_world.proofs.Refusing.{both_none}
use Rattle.jm_program.specs.declared.class.ClassParts.{ClassParts}
use Rattle.jm_linker.specs.declared.fault.LinkFault.{LinkFault}
use Rattle.jm_linker.specs.declared.fault.LinkFault.TheVariants as fault
use Rattle.jm_linker.specs.Answers.{SaysWhy, Answers, IsOutOfMemory}

first_is : (a b : Option Refusal) (r : Refusal) → a ≡ Some r → or_else a b ≡ Some r
first_is a b r e = ap (λ o. or_else o b) e

-- a fault that gives the first reason gives the reason
pub first_says : (f : LinkFault) (a b : Option Refusal) → SaysWhy f a → SaysWhy f (or_else a b)
first_says (fault.DuplicateClass name) a b e = first_is a b _ e
first_says (fault.DuplicateMember name) a b e = first_is a b _ e
first_says (fault.NoClass name) a b e = first_is a b _ e
first_says (fault.Cycle name) a b e = first_is a b _ e
first_says (fault.NoField name) a b e = first_is a b _ e
first_says (fault.NoMethod name) a b e = first_is a b _ e
first_says (fault.WrongKind name) a b e = first_is a b _ e
first_says fault.NoMain a b e = first_is a b _ e
first_says fault.OutOfMemory a b e = tt

-- where the first gives none, the second decides
pub second_answers : {A : Type 0} (r : Result A LinkFault) (a b : Option Refusal) → a ≡ None → Answers r b → Answers r (or_else a b)
second_answers r a b e h = subst (λ o. Answers r (or_else o b)) (sym e) h

-- a reason along a list: the next part has one, or none
pub first_at : {A : Type 0} (check : A → Option Refusal) (xs : List A) (i : ℕ) (x : A) (f : LinkFault) → i < length xs → x ≡ get_or xs i x → SaysWhy f (check x) → first_of_all check xs ≡ first_of_all check (drop i xs) → SaysWhy f (first_of_all check xs)
first_at check xs i x f l is h e =
    let here : first_of_all check (drop i xs) ≡ or_else (check x) (first_of_all check (drop (i + 1) xs)) = rw (drop_more xs i x l, ← is) refl in
    subst (SaysWhy f) (sym (e ∙ here)) (first_says f (check x) (first_of_all check (drop (i + 1) xs)) h)

pub first_after : {A : Type 0} (check : A → Option Refusal) (xs : List A) (i : ℕ) (x : A) → i < length xs → x ≡ get_or xs i x → check x ≡ None → first_of_all check xs ≡ first_of_all check (drop i xs) → first_of_all check xs ≡ first_of_all check (drop (i + 1) xs)
first_after check xs i x l is h e =
    let here : first_of_all check (drop i xs) ≡ or_else (check x) (first_of_all check (drop (i + 1) xs)) = rw (drop_more xs i x l, ← is) refl in
    e ∙ here ∙ ap (λ o. or_else o (first_of_all check (drop (i + 1) xs))) h

-- that memory was refused says nothing of the reason
pub memory_says : (f : LinkFault) (r : Option Refusal) → IsOutOfMemory f → SaysWhy f r
memory_says f r e = subst (λ g. SaysWhy g r) (sym e) tt

-- a program that loads has a main
pub has_main : (program : List ClassParts) → refusal program ≡ None → is_main (main_in program) ≡ true
unfolding refusal
has_main program e =
    let members = (both_none (duplicates [] program) _ e).1 in
    let parents = (both_none (first_of_all duplicate_members program) _ members).1 in
    let cycles = (both_none (first_of_all (parents_refusal program) program) _ parents).1 in
    let main = (both_none (first_of_all (cycle_refusal program) program) _ cycles).1 in
    by (is_main (main_in program)) (both_none (when (not (is_main (main_in program))) no_main) _ main).0
  where
    by : (t : Bool) → when (not t) no_main ≡ None → t ≡ true
    by true g = refl
    by false g = cc

-- a program loads where none of the reasons is one
pub loads_where : (program : List ClassParts) → duplicates [] program ≡ None → first_of_all duplicate_members program ≡ None
    → first_of_all (parents_refusal program) program ≡ None → first_of_all (cycle_refusal program) program ≡ None
    → when (not (is_main (main_in program))) no_main ≡ None → first_of_all (λ (c : ClassParts). first_of_all (method_code_refusal program) c.methods) program ≡ None
    → refusal program ≡ None
unfolding refusal
loads_where program a b c d e f = both a (both b (both c (both d (both e f))))
  where
    both : {x y : Option Refusal} → x ≡ None → y ≡ None → or_else x y ≡ None
    both {x} {y} g h = ap (λ o. or_else o y) g ∙ h
