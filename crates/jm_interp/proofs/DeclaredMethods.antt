-- Methods by number: that of a class, and that among the methods of all classes.
use Rattle.std.proofs.Common.{◌≡◌, ℕ, zero, suc, ◌+◌, ◌-◌, ◌<◌, ◌≤◌, List, [], ◌∷◌, ◌++◌, Option, Some, None, Bor, sym, ap, ◌∙◌, subst}
use Rattle.std.proofs.Common.{length, drop, arith}
use Rattle.std.proofs.lemmas.Option.{slice_get_past}
use Rattle.std.specs.Prelude.{IfSome, MatchOption, map, option_map, slice_get, slice_index_or}
use Rattle.std.specs.List.{HoldsAt}
use Rattle.jm_program.specs.declared.class.ClassParts.{ClassParts}
use Rattle.jm_program.specs.declared.class.Method.{Method}
use Rattle.jm_builtins.specs.declared.built_in.BuiltIn.{BuiltIn}
use Rattle.jm_builtins.specs.List.{the_builtins}
use Rattle.jm_values.proofs.Lists.{get_at}
use Rattle.jm_world.specs.Classes.{FoundMethod, as_class}
use Rattle.jm_linked.specs.Links.{IsMethodOf, class_numbered}
use Rattle.jm_linked.specs.Methods.{all_methods, methods_in, methods_of}
use Rattle.jm_linked.specs.declared.instruction.MemberNumber.{MemberNumber}

-- what a look-up of a slice's method gives
pub looked_up : (ms : List Method) (k : ℕ) (r : Option (Bor Method))
    → MatchOption r (length ms ≤ k) (λ m. (k < length ms) × HoldsAt (λ x. m.now ≡ x) ms k)
    → option_map (λ m. m.now) r ≡ slice_get ms k
looked_up ms k None past = sym (slice_get_past ms k past)
looked_up ms k (Some m) there = sym (get_at ms k m.now there.0 (there.1 m.now))

-- the class of a number, where it is a built-in one and where it is one of the program's
built_in_of : (bs : List BuiltIn) (cs : List ClassParts) (n : ℕ) (b : BuiltIn) → slice_get bs n ≡ Some b
    → slice_get (map as_class bs ++ cs) n ≡ Some (as_class b)
built_in_of [] cs n b e = cc
built_in_of (x ∷ bs) cs zero b e = let same : x ≡ b = cc in ap (λ y. Some (as_class y)) same
built_in_of (x ∷ bs) cs (suc n) b e = built_in_of bs cs n b e

own_of : (bs : List BuiltIn) (cs : List ClassParts) (n k : ℕ) → n ≡ length bs + k → slice_get (map as_class bs ++ cs) n ≡ slice_get cs k
own_of [] cs n k at = let same : n ≡ k = omega (arith, at) in ap (slice_get cs) same
own_of (x ∷ bs) cs zero k at = absurd (omega (arith, at))
own_of (x ∷ bs) cs (suc n) k at = own_of bs cs n k (omega (arith, at))

-- the class that a loop over these takes, where so many classes came before it
pub built_in_here : (program : List ClassParts) (bs : List BuiltIn) (i n : ℕ) (b : BuiltIn) → bs ≡ the_builtins → n ≡ i → i < length bs
    → b ≡ slice_index_or bs i b → class_numbered program n ≡ Some (as_class b)
built_in_here program bs i n b these at inside is =
    let there : slice_get the_builtins i ≡ Some b = ap (λ (xs : List BuiltIn). slice_get xs i) (sym these) ∙ get_at bs i b inside is in
    built_in_of the_builtins program n b (ap (slice_get the_builtins) at ∙ there)

pub own_here : (program cs : List ClassParts) (i n : ℕ) (c : ClassParts) → cs ≡ program → n ≡ length the_builtins + i → i < length cs
    → c ≡ slice_index_or cs i c → class_numbered program n ≡ Some c
own_here program cs i n c these at inside is =
    own_of the_builtins program n i at ∙ ap (λ xs. slice_get xs i) (sym these) ∙ get_at cs i c inside is

-- the classes from a number on
from_here : (cs : List ClassParts) (n : ℕ) (c : ClassParts) → slice_get cs n ≡ Some c → drop n cs ≡ c ∷ drop (suc n) cs
from_here [] n c e = cc
from_here (x ∷ cs) zero c e = let same : x ≡ c = cc in ap (λ y. y ∷ cs) same
from_here (x ∷ cs) (suc n) c e = from_here cs n c e

-- a method among those of a class and of others: it is of the class, or stands past its methods
of_class : (c : ClassParts) (ms : List Method) (others : List FoundMethod) (k : ℕ) (found : FoundMethod) → k < length ms
    → slice_get (methods_of c ms ++ others) k ≡ Some found → (found.class ≡ c) × (slice_get ms k ≡ Some found.method)
of_class c [] others k found inside e = absurd (omega (arith, inside))
of_class c (m ∷ ms) others zero found inside e =
    let f : FoundMethod = record { class = c; method = m } in
    let same : f ≡ found = cc in (ap (λ (x : FoundMethod). x.class) (sym same), ap (λ (x : FoundMethod). Some x.method) same)
of_class c (m ∷ ms) others (suc k) found inside e = of_class c ms others k found (omega (arith, inside)) e

past_class : (c : ClassParts) (ms : List Method) (others : List FoundMethod) (k j : ℕ) → k ≡ length ms + j
    → slice_get (methods_of c ms ++ others) k ≡ slice_get others j
past_class c [] others k j at = let same : k ≡ j = omega (arith, at) in ap (slice_get others) same
past_class c (m ∷ ms) others zero j at = absurd (omega (arith, at))
past_class c (m ∷ ms) others (suc k) j at = past_class c ms others k j (omega (arith, at))

-- so many classes are passed, and the method that is sought has that number among those of the others
abbrev pub Passed : List ClassParts → ℕ → ℕ → ℕ → Type 0
Passed program number class left =
    (found : FoundMethod) → slice_get (all_methods program) number ≡ Some found
    → slice_get (methods_in (drop class (map as_class the_builtins ++ program))) left ≡ Some found

pub none_passed : (program : List ClassParts) (number : ℕ) → Passed program number 0 number
unfolding all_methods
none_passed program number found e = e

-- the class that comes next, which has these methods
module _ (program : List ClassParts) (number class left : ℕ) (h : Passed program number class left) {c : ClassParts} {ms : List Method}
    (here : class_numbered program class ≡ Some c) (methods : ms ≡ c.methods) where
  abbrev others : List FoundMethod
  others = methods_in (drop (suc class) (map as_class the_builtins ++ program))

  among : (found : FoundMethod) → slice_get (all_methods program) number ≡ Some found
      → slice_get (methods_of c ms ++ others) left ≡ Some found
  among found e =
      ap (λ xs. slice_get (methods_of c xs ++ others) left) methods
      ∙ ap (λ cs. slice_get (methods_in cs) left) (sym (from_here (map as_class the_builtins ++ program) class c here))
      ∙ h found e

  pub one_passed : length ms ≤ left → Passed program number (class + 1) (left - length ms)
  one_passed past found e =
      let next : suc class ≡ class + 1 = omega arith in
      let at : left ≡ length ms + (left - length ms) = omega (arith, past) in
      subst (λ n. slice_get (methods_in (drop n (map as_class the_builtins ++ program))) (left - length ms) ≡ Some found) next
      (sym (past_class c ms others left (left - length ms) at) ∙ among found e)

  pub declared_there : left < length ms → (r : Option MemberNumber) → IfSome r (λ n. (n.class ≡ class) × (n.member ≡ left)) → (found : FoundMethod)
      → slice_get (all_methods program) number ≡ Some found → IfSome r (λ n. IsMethodOf program n found)
  declared_there inside None is found e = is
  declared_there inside (Some n) is found e =
      let own = of_class c ms others left found inside (among found e) in
      record {
        class = ap (class_numbered program) is.0 ∙ here ∙ ap Some (sym own.0);
        method = ap (λ (x : ClassParts). slice_get x.methods n.member) own.0 ∙ ap (slice_get c.methods) is.1
            ∙ ap (λ xs. slice_get xs left) (sym methods) ∙ own.1;
      }
