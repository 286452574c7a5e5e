-- Classes by their numbers among all classes.
use Rattle.std.proofs.Common.{◌≡◌, ℕ, ◌+◌, ◌-◌, ◌<◌, ◌≤◌, suc, Bool, true, false, List, [], ◌∷◌, ◌++◌, Option, Some, None, length, get_or}
use Rattle.std.proofs.Common.{drop, refl, sym, ap, ◌∙◌, arith}
use Rattle.std.specs.Prelude.{map, slice_get, option_map, MatchOption}
use Rattle.std.proofs.lemmas.List.{drop_more, drop_all}
use Rattle.std.proofs.lemmas.Option.{slice_get-get_or, slice_get-map, slice_get_past}
use Rattle.std.specs.Borrow.{Bor}
use Rattle.std.specs.List.{ItemBy}
use Rattle.std.specs.Cmp.Lexicographic as texts
use Rattle.jm_program.specs.Names.{same_text}
use Rattle.jm_program.specs.declared.class.ClassParts.{ClassParts}
use Rattle.jm_program.proofs.Sequences.{got_behind, got_front, got_within}
use Rattle.jm_builtins.specs.List.{the_builtins}
use Rattle.jm_builtins.specs.declared.built_in.BuiltIn.{BuiltIn}
use Rattle.jm_world.specs.Classes.{as_class, class_named}
use Rattle.jm_world.proofs.FoundAgain.{has_own_name as has_name}
use Rattle.jm_linked.specs.Links.{class_numbered}
use Rattle.jm_linker.specs.BuiltInClasses.{built_in_classes, class_in, number_from}
use Rattle.jm_linker.specs.declared.members.Members.{Members}
use Rattle.jm_linker.specs.NumberedClasses.{IsNumberOf, HasClass}
use Rattle.jm_linker.proofs.Numbers.{by_number, by_no_number}

abbrev members_class : Members → ClassParts
members_class m = m.class.now

-- what stands behind a list
behind : {A : Type 0} (xs ys : List A) (n k : ℕ) (found : Option A) → n ≡ length xs + k → slice_get ys k ≡ found → slice_get (xs ++ ys) n ≡ found
behind xs ys n k found is at = ap (slice_get (xs ++ ys)) is ∙ got_behind xs ys k ∙ at

-- the class of a number among classes, counted from a number
record IsIn (k : ℕ) (cs : List ClassParts) (name : List ℕ) (n : ℕ) : Type 0 where
  class : ClassParts
  from : k ≤ n
  found : class_in cs name ≡ Some class
  at : slice_get cs (n - k) ≡ Some class
  name_is : class.name ≡ name

is_in : (k : ℕ) (cs : List ClassParts) (name : List ℕ) (n : ℕ) → number_from k cs name ≡ Some n → IsIn k cs name n
is_in k [] name n e = cc
is_in k (c ∷ cs) name n e = by (is_in (k + 1) cs name n) (same_text c.name name) refl e
  where
    same : Some k ≡ Some n → n ≡ k
    same g = cc

    first : (i : ℕ) → i ≡ 0 → slice_get (c ∷ cs) i ≡ Some c
    first i z = ap (slice_get (c ∷ cs)) z

    later : (i j : ℕ) → i ≡ suc j → slice_get (c ∷ cs) i ≡ slice_get cs j
    later i j z = ap (slice_get (c ∷ cs)) z

    by : (number_from (k + 1) cs name ≡ Some n → IsIn (k + 1) cs name n) → (t : Bool) → same_text c.name name ≡ t
        → (elim t as (λ _. Option ℕ) [ true ↦ Some k | false ↦ number_from (k + 1) cs name ]) ≡ Some n → IsIn k (c ∷ cs) name n
    by more true is g =
        let here : n ≡ k = same g in
        record {
          class = c;
          from = omega (arith, here);
          found = ap (λ b. elim b as (λ _. Option ClassParts) [ true ↦ Some c | false ↦ class_in cs name ]) is;
          at = first (n - k) (omega (arith, here));
          name_is = texts.same_text c.name name (sym is);
        }
    by more false is g =
        let rest : IsIn (k + 1) cs name n = more g in
        let past = rest.from in
        record {
          class = rest.class;
          from = omega (arith, past);
          found = ap (λ b. elim b as (λ _. Option ClassParts) [ true ↦ Some c | false ↦ class_in cs name ]) is ∙ rest.found;
          at = later (n - k) (n - (k + 1)) (omega (arith, past)) ∙ rest.at;
          name_is = rest.name_is;
        }

none_in : (k : ℕ) (cs : List ClassParts) (name : List ℕ) → number_from k cs name ≡ None → class_in cs name ≡ None
none_in k [] name e = refl
none_in k (c ∷ cs) name e = by (none_in (k + 1) cs name) (same_text c.name name) refl e
  where
    by : (number_from (k + 1) cs name ≡ None → class_in cs name ≡ None) → (t : Bool) → same_text c.name name ≡ t
        → (elim t as (λ _. Option ℕ) [ true ↦ Some k | false ↦ number_from (k + 1) cs name ]) ≡ None
        → (elim (same_text c.name name) as (λ _. Option ClassParts) [ true ↦ Some c | false ↦ class_in cs name ]) ≡ None
    by more true is g = cc
    by more false is g = ap (λ b. elim b as (λ _. Option ClassParts) [ true ↦ Some c | false ↦ class_in cs name ]) is ∙ more g

named_at : (cs : List ClassParts) (n : ℕ) (c : ClassParts) (name : List ℕ) → slice_get cs n ≡ Some c → c.name ≡ name
    → slice_get (map (λ (d : ClassParts). d.name) cs) n ≡ Some name
named_at cs n c name at is = slice_get-map (λ (d : ClassParts). d.name) cs n ∙ ap (option_map (λ (d : ClassParts). d.name)) at ∙ ap Some is

-- the number in what is left, counted on
number_left : (ms : List Members) (i : ℕ) (m : Members) (name : List ℕ) → i < length ms → m ≡ get_or ms i m
    → number_from i (map members_class (drop i ms)) name ≡ (elim (same_text m.class.now.name name) as
    (λ _. Option ℕ) [ true ↦ Some i | false ↦ number_from (i + 1) (map members_class (drop (i + 1) ms)) name ])
number_left ms i m name l is = let here : drop i ms ≡ m ∷ drop (i + 1) ms = rw (drop_more ms i m l, ← is) refl in ap (λ xs. number_from i
    (map members_class xs) name) here

pub number_here : (ms : List Members) (i : ℕ) (m : Members) (name : List ℕ) → i < length ms → m ≡ get_or ms i m → same_text m.class.now.name name ≡ true
    → number_from 0 (map members_class ms) name ≡ number_from i (map members_class (drop i ms)) name → Some i ≡ number_from 0 (map members_class ms) name
number_here ms i m name l is same e =
    sym (e ∙ number_left ms i m name l is ∙ ap (λ b. elim b as (λ _. Option ℕ) [
      | true ↦ Some i
      | false ↦ number_from (i + 1) (map members_class (drop
          (i + 1) ms)) name
    ]) same)

pub number_past : (ms : List Members) (i : ℕ) (m : Members) (name : List ℕ) → i < length ms → m ≡ get_or ms i m → same_text m.class.now.name name ≡ false
    → number_from 0 (map members_class ms) name ≡ number_from i (map members_class (drop i ms)) name
    → number_from 0 (map members_class ms) name ≡ number_from (i + 1) (map members_class (drop (i + 1) ms)) name
number_past ms i m name l is other e =
    e ∙ number_left ms i m name l is ∙ ap (λ b. elim b as (λ _. Option ℕ) [
      | true ↦ Some i
      | false ↦ number_from (i + 1) (map members_class (drop
          (i + 1) ms)) name
    ]) other

pub number_nowhere : (ms : List Members) (i : ℕ) (name : List ℕ) → length ms ≤ i
    → number_from 0 (map members_class ms) name ≡ number_from i (map members_class (drop i ms)) name
    → None ≡ number_from 0 (map members_class ms) name
number_nowhere ms i name l e = sym (e ∙ ap (λ xs. number_from i (map members_class xs) name) (drop_all i ms l))

-- a class of the program has its number behind the built-in ones
pub of_program : (program : List ClassParts) (name : List ℕ) (n m : ℕ) → number_from 0 program name ≡ Some n → m ≡ length the_builtins + n
    → IsNumberOf program name m
of_program program name n m e is =
    let i = is_in 0 program name n e in
    let all : n - 0 ≡ n = omega arith in
    let at : slice_get program n ≡ Some i.class = ap (slice_get program) (sym all) ∙ i.at in
    record {
      class = i.class;
      found = by_number program name n e ∙ at;
      numbered = behind (map as_class the_builtins) program m n (Some i.class) is at;
      named = behind (map (λ (b : BuiltIn). b.name) the_builtins) (map (λ (c : ClassParts). c.name) program) m n (Some name) is
          (named_at program n i.class name at i.name_is);
    }

built_in_names_are : map (λ (c : ClassParts). c.name) built_in_classes ≡ map (λ (b : BuiltIn). b.name) the_builtins
unfolding built_in_classes
built_in_names_are = refl

-- a built-in class has the number of its place among the built-in ones
pub of_built_ins : (program : List ClassParts) (name : List ℕ) (n : ℕ) → number_from 0 program name ≡ None → number_from 0 built_in_classes name ≡ Some n
    → IsNumberOf program name n
unfolding built_in_classes
of_built_ins program name n none e =
    let i = is_in 0 built_in_classes name n e in
    let all : n - 0 ≡ n = omega arith in
    let at : slice_get built_in_classes n ≡ Some i.class = ap (slice_get built_in_classes) (sym all) ∙ i.at in
    record {
      class = i.class;
      found = by_no_number program name none ∙ i.found;
      numbered = got_front built_in_classes program n i.class at;
      named = got_front (map (λ (b : BuiltIn). b.name) the_builtins) (map (λ (c : ClassParts). c.name) program) n name
          (ap (λ ns. slice_get ns n) (sym built_in_names_are) ∙ named_at built_in_classes n i.class name at i.name_is);
    }

pub of_none : (program : List ClassParts) (name : List ℕ) → number_from 0 program name ≡ None → number_from 0 built_in_classes name ≡ None
    → class_named program name ≡ None
of_none program name none e = by_no_number program name none ∙ none_in 0 built_in_classes name e

pub built_in_answer : (program : List ClassParts) (name : List ℕ) (cs : List ClassParts) (o : Option ℕ) → cs ≡ built_in_classes
    → number_from 0 program name ≡ None
    → o ≡ number_from 0 cs name → MatchOption o (class_named program name ≡ None) (λ n. IsNumberOf program name n)
built_in_answer program name cs None all none e = of_none program name none (ap (λ ds. number_from 0 ds name) (sym all) ∙ sym e)
built_in_answer program name cs (Some n) all none e = of_built_ins program name n none (ap (λ ds. number_from 0 ds name) (sym all) ∙ sym e)

-- a class that the program has is found under its own name
pub by_own_name : (program : List ClassParts) (c : ClassParts) → HasClass program c → class_named program c.name ≡ Some c
by_own_name program c h = ap (class_named program) (texts.same_text c.name h.0 (sym (has_name program h.0 c h.1))) ∙ h.1

pub own_number : (program : List ClassParts) (c : ClassParts) (n m : ℕ) → HasClass program c → IsNumberOf program c.name n → m ≡ n
    → class_numbered program m ≡ Some c
own_number program c n m h i same = ap (class_numbered program) same ∙ i.numbered ∙ sym i.found ∙ by_own_name program c h

-- the class whose members a look-up gives
class_got : (ms : List Members) (cs : List ClassParts) (n : ℕ) (r : Option (Bor Members)) → map members_class ms ≡ cs
    → ItemBy (λ (m : Bor Members). m.now) ms n n r → option_map (λ (m : Bor Members). m.now.class.now) r ≡ slice_get cs n
class_got ms cs n r all item = by r item ∙ sym (ap (λ ds. slice_get ds n) (sym all) ∙ slice_get-map members_class ms n)
  where
    by : (r : Option (Bor Members)) → ItemBy (λ (m : Bor Members). m.now) ms n n r → option_map (λ (m : Bor Members). m.now.class.now) r ≡ option_map members_class (slice_get ms n)
    by None item = ap (option_map members_class) (sym (slice_get_past ms n item.3))
    by (Some m) item = ap (option_map members_class) (sym (slice_get-get_or ms n m.now item.3.0 ∙ ap Some (sym item.1)))

-- by its number: a class of the program, and a built-in one
pub own_got : (program : List ClassParts) (ms : List Members) (n k : ℕ) (r : Option (Bor Members)) → n ≡ length the_builtins + k
    → map members_class ms ≡ program → ItemBy (λ (m : Bor Members). m.now) ms k k r → option_map (λ (m : Bor Members). m.now.class.now) r ≡ class_numbered program n
own_got program ms n k r is all item = class_got ms program k r all item ∙ sym (behind (map as_class the_builtins) program n k (slice_get program k) is refl)

pub built_in_got : (program : List ClassParts) (ms : List Members) (n : ℕ) (r : Option (Bor Members)) → n < length the_builtins
    → map members_class ms ≡ built_in_classes → ItemBy (λ (m : Bor Members). m.now) ms n n r → option_map (λ (m : Bor Members). m.now.class.now) r ≡ class_numbered program n
unfolding built_in_classes
built_in_got program ms n r l all item = class_got ms built_in_classes n r all item ∙ sym (got_within (map as_class the_builtins) program n l)

-- the class of the number of a name is that of the name
pub of_its_number : (program : List ClassParts) (name : List ℕ) (n : ℕ) → IsNumberOf program name n → class_numbered program n ≡ class_named program name
of_its_number program name n h = h.numbered ∙ sym h.found
