-- Classes by their numbers.
use Rattle.std.proofs.Common.{◌≡◌, ℕ, ◌+◌, ◌-◌, ◌<◌, ◌≤◌, zero, suc, Bool, true, false, cond, ◌||◌, List, [], ◌∷◌, Option, Some, None, length, get_or, drop, refl, sym, ap, ◌∙◌, arith}
use Rattle.std.specs.Prelude.{slice_get, take, nat_lt}
use Rattle.std.specs.List.{list_any}
use Rattle.std.proofs.lemmas.List.{drop_more}
use Rattle.std.specs.Borrow.{Bor}
use Rattle.std.specs.BTreeMap.{BTreeMap, get}
use Rattle.std.specs.Cmp.Lexicographic.{texts_ties}
use Rattle.std.specs.Ordering.{is_eq}
use Rattle.jm_program.specs.Names.{same_text}
use Rattle.jm_program.specs.declared.class.ClassParts.{ClassParts}
use Rattle.jm_builtins.specs.List.{the_builtins}
use Rattle.jm_world.specs.Classes.{built_in_named, class_among, class_named}
use Rattle.jm_linker.specs.BuiltInClasses.{built_in_classes, class_in, number_from}
use Rattle.jm_linker.specs.Tables.{by_units}
use Rattle.jm_linker.proofs.ClassLaws.{built_in_found}

-- the class of a number, counted from a number
record IsNumbered (k : ℕ) (cs : List ClassParts) (name : List ℕ) (n : ℕ) : Type 0 where
  from : k ≤ n
  found : class_among cs name ≡ slice_get cs (n - k)
  within : n < k + length cs

numbered : (k : ℕ) (cs : List ClassParts) (name : List ℕ) (n : ℕ) → number_from k cs name ≡ Some n → IsNumbered k cs name n
numbered k [] name n e = cc
numbered k (c ∷ cs) name n e = by (numbered (k + 1) cs name n) (same_text c.name name) refl e
  where
    same : Some k ≡ Some n → n ≡ k
    same g = cc

    at_zero : (i : ℕ) → i ≡ 0 → slice_get (c ∷ cs) i ≡ Some c
    at_zero i z = ap (slice_get (c ∷ cs)) z

    at_more : (i j : ℕ) → i ≡ suc j → slice_get (c ∷ cs) i ≡ slice_get cs j
    at_more i j z = ap (slice_get (c ∷ cs)) z

    by : (number_from (k + 1) cs name ≡ Some n → IsNumbered (k + 1) cs name n) → (t : Bool) → same_text c.name name ≡ t → (elim t as (λ _. Option ℕ) [ true ↦ Some k | false ↦ number_from (k + 1) cs name ]) ≡ Some n → IsNumbered k (c ∷ cs) name n
    by more true is g =
        let here : n ≡ k = same g in
        record {
          from = omega (arith, here);
          found = ap (λ b. elim b as (λ _. Option ClassParts) [ true ↦ Some c | false ↦ class_among cs name ]) is ∙ sym (at_zero (n - k) (omega (arith, here)));
          within = omega (arith, here);
        }
    by more false is g =
        let rest : IsNumbered (k + 1) cs name n = more g in
        record {
          from = omega (arith, rest.from);
          found = ap (λ b. elim b as (λ _. Option ClassParts) [ true ↦ Some c | false ↦ class_among cs name ]) is ∙ rest.found ∙ sym (at_more (n - k) (n - (k + 1)) (omega (arith, rest.from)));
          within = omega (arith, rest.within);
        }

unnumbered : (k : ℕ) (cs : List ClassParts) (name : List ℕ) → number_from k cs name ≡ None → class_among cs name ≡ built_in_named the_builtins name
unnumbered k [] name e = refl
unnumbered k (c ∷ cs) name e = by (unnumbered (k + 1) cs name) (same_text c.name name) refl e
  where
    by : (number_from (k + 1) cs name ≡ None → class_among cs name ≡ built_in_named the_builtins name) → (t : Bool) → same_text c.name name ≡ t → (elim t as (λ _. Option ℕ) [ true ↦ Some k | false ↦ number_from (k + 1) cs name ]) ≡ None → (elim (same_text c.name name) as (λ _. Option ClassParts) [ true ↦ Some c | false ↦ class_among cs name ]) ≡ built_in_named the_builtins name
    by more true is g = cc
    by more false is g = ap (λ b. elim b as (λ _. Option ClassParts) [ true ↦ Some c | false ↦ class_among cs name ]) is ∙ more g

pub number_within : (program : List ClassParts) (name : List ℕ) (n : ℕ) → number_from 0 program name ≡ Some n → n < length program
number_within program name n e = omega (arith, (numbered 0 program name n e).within)

pub by_number : (program : List ClassParts) (name : List ℕ) (n : ℕ) → number_from 0 program name ≡ Some n → class_named program name ≡ slice_get program n
unfolding class_named
by_number program name n e = let all : n - 0 ≡ n = omega arith in (numbered 0 program name n e).found ∙ ap (slice_get program) all

pub by_no_number : (program : List ClassParts) (name : List ℕ) → number_from 0 program name ≡ None → class_named program name ≡ class_in built_in_classes name
unfolding class_named
by_no_number program name e = unnumbered 0 program name e ∙ sym (built_in_found name)

-- one more class, in front
pub one_more : (program : List ClassParts) (n : ℕ) (c : ClassParts) (name : List ℕ) → n < length program → c ≡ get_or program n c → number_from n (drop n program) name ≡ cond (same_text c.name name) (Some n) (number_from (n + 1) (drop (n + 1) program) name)
one_more program n c name l is =
    let here : drop n program ≡ c ∷ drop (n + 1) program = rw (drop_more program n c l, ← is) refl in
    ap (λ cs. number_from n cs name) here ∙ by (same_text c.name name)
  where
    by : (b : Bool) → (elim b as (λ _. Option ℕ) [ true ↦ Some n | false ↦ number_from (n + 1) (drop (n + 1) program) name ]) ≡ cond b (Some n) (number_from (n + 1) (drop (n + 1) program) name)
    by true = refl
    by false = refl

pub numbered_more : (program : List ClassParts) (n m : ℕ) (c : ClassParts) (key : Bor (List ℕ)) (old now : BTreeMap (Bor (List ℕ)) ℕ) → n < length program → c ≡ get_or program n c → key.now ≡ c.name → m ≡ n + 1
    → ((q : Bor (List ℕ)) → get by_units now q ≡ cond (is_eq (by_units key q)) (Some n) (get by_units old q)) → ((q : Bor (List ℕ)) → get by_units old q ≡ number_from m (drop m program) q.now) → (q : Bor (List ℕ)) → get by_units now q ≡ number_from n (drop n program) q.now
numbered_more program n m c key old now l is same next updates numbered q =
    updates q ∙ ap (λ b. cond b (Some n) (get by_units old q)) (sym (texts_ties key.now q.now) ∙ ap (λ (x : List ℕ). same_text x q.now) same)
    ∙ ap (cond (same_text c.name q.now) (Some n)) (numbered q ∙ ap (λ k. number_from k (drop k program) q.now) next) ∙ sym (one_more program n c q.now l is)

-- a class of the name before a number
not_below : (k : ℕ) (cs : List ClassParts) (name : List ℕ) → elim (number_from k cs name) as (λ _. Bool) [ None ↦ false | Some n ↦ nat_lt n k ] ≡ false
not_below k cs name = by (number_from k cs name) refl
  where
    by : (o : Option ℕ) → number_from k cs name ≡ o → elim o as (λ _. Bool) [ None ↦ false | Some n ↦ nat_lt n k ] ≡ false
    by None e = refl
    by (Some n) e = grind (arith, (numbered k cs name n e).from)

before_from : (k : ℕ) (cs : List ClassParts) (i : ℕ) (name : List ℕ) → list_any (λ c. same_text c.name name) (take i cs) ≡ (elim (number_from k cs name) as (λ _. Bool) [ None ↦ false | Some n ↦ nat_lt n (k + i) ])
before_from k [] zero name = refl
before_from k [] (suc i) name = refl
before_from k (c ∷ cs) zero name = let all : k + 0 ≡ k = omega arith in sym (ap (λ j. elim (number_from k (c ∷ cs) name) as (λ _. Bool) [ None ↦ false | Some n ↦ nat_lt n j ]) all ∙ not_below k (c ∷ cs) name)
before_from k (c ∷ cs) (suc i) name = by (same_text c.name name) (before_from (k + 1) cs i name)
  where
    next : (k + 1) + i ≡ k + suc i
    next = omega arith

    below : nat_lt k (k + suc i) ≡ true
    below = grind arith

    by : (t : Bool) → list_any (λ c. same_text c.name name) (take i cs) ≡ (elim (number_from (k + 1) cs name) as (λ _. Bool) [ None ↦ false | Some n ↦ nat_lt n ((k + 1) + i) ]) → (t || list_any (λ c. same_text c.name name) (take i cs)) ≡ (elim (elim t as (λ _. Option ℕ) [ true ↦ Some k | false ↦ number_from (k + 1) cs name ]) as (λ _. Bool) [ None ↦ false | Some n ↦ nat_lt n (k + suc i) ])
    by true e = sym below
    by false e = e ∙ ap (λ j. elim (number_from (k + 1) cs name) as (λ _. Bool) [ None ↦ false | Some n ↦ nat_lt n j ]) next

pub stands_before_number : (program : List ClassParts) (i : ℕ) (name : List ℕ) (o : Option ℕ) → number_from 0 program name ≡ o
    → list_any (λ c. same_text c.name name) (take i program) ≡ (elim o as (λ _. Bool) [ None ↦ false | Some n ↦ nat_lt n i ])
stands_before_number program i name o e = let all : 0 + i ≡ i = omega arith in
    before_from 0 program i name ∙ ap (λ j. elim (number_from 0 program name) as (λ _. Bool) [ None ↦ false | Some n ↦ nat_lt n j ]) all ∙ ap (λ p. elim p as (λ _. Bool) [ None ↦ false | Some n ↦ nat_lt n i ]) e
