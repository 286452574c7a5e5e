-- The linked methods of a class, one after the other.
use Rattle.std.proofs.Common.{◌≡◌, ℕ, ◌+◌, ◌<◌, true, false, List, [], ◌∷◌, ◌++◌, Option, Some, None, length, get_or, take, refl, sym, ap}
use Rattle.std.proofs.Common.{subst, ◌∙◌, arith}
use Rattle.std.specs.Prelude.{is_some, slice_get, map}
use Rattle.std.specs.List.{AllByRecursion}
use Rattle.std.proofs.lemmas.List.{take_more, length-append, length-take-le, append-nil, append_assoc}
use Rattle.std.proofs.lemmas.Option.{slice_get_read}
use Rattle.jm_program.specs.Fits.{Fits}
use Rattle.jm_program.specs.declared.class.ClassParts.{ClassParts}
use Rattle.jm_program.specs.declared.class.Method.{Method}
use Rattle.jm_program.specs.declared.code.Code.{Code}
use Rattle.jm_linked.specs.Links.{coded_among, coded_from, place_of}
use Rattle.jm_linked.specs.declared.method.LinkedMethod.{LinkedMethod}
use Rattle.jm_linker.specs.LinkedMethods.{LinksCode, LinksAlone}
use Rattle.jm_linker.proofs.MainLaws.{coded_more, classes_more}
use Rattle.jm_values.proofs.Lists.{each_and_more}

pub map_more : {A B : Type 0} (f : A → B) (xs : List A) (x : A) → map f (xs ++ x ∷ []) ≡ map f xs ++ f x ∷ []
map_more f [] x = refl
map_more f (y ∷ ys) x = ap (λ l. f y ∷ l) (map_more f ys x)

-- the methods so far, and those with code among them
coded_to : (ms : List Method) (i k : ℕ) (x : Method) → i < length ms → x ≡ get_or ms i x
    → coded_among k 0 (take (i + 1) ms) ≡ coded_among k 0 (take i ms) ++ coded_among k i (x ∷ [])
coded_to ms i k x l is =
    let more : take (i + 1) ms ≡ take i ms ++ x ∷ [] = rw (take_more ms i x l, ← is) refl in
    let taken = length-take-le i ms (omega (arith, l)) in
    let long : 0 + length (take i ms) ≡ i = omega (arith, taken) in
    ap (coded_among k 0) more ∙ coded_more (take i ms) k 0 x ∙ ap (λ n. coded_among k 0 (take i ms) ++ coded_among k n (x ∷ [])) long

one_coded : (k i : ℕ) (x : Method) (code : Code) → x.code ≡ Some code → coded_among k i (x ∷ []) ≡ (k, i) ∷ []
one_coded k i x code is = ap (λ o. elim o as (λ _. List (ℕ × ℕ)) [ None ↦ [] | Some c ↦ (k, i) ∷ [] ]) is

none_coded : (k i : ℕ) (x : Method) → x.code ≡ None → coded_among k i (x ∷ []) ≡ []
none_coded k i x is = ap (λ o. elim o as (λ _. List (ℕ × ℕ)) [ None ↦ [] | Some c ↦ (k, i) ∷ [] ]) is

pub counted_more : (ms : List Method) (i n : ℕ) (x : Method) → i < length ms → x ≡ get_or ms i x → is_some x.code ≡ true
    → n ≡ length (coded_among 0 0 (take i ms)) → n + 1 ≡ length (coded_among 0 0 (take (i + 1) ms))
counted_more ms i n x l is has e = by x.code refl has
  where
    by : (o : Option Code) → x.code ≡ o → is_some o ≡ true → n + 1 ≡ length (coded_among 0 0 (take (i + 1) ms))
    by None is' g = cc
    by (Some code) is' g =
        ap (λ k. k + 1) e
        ∙ sym (ap length (coded_to ms i 0 x l is ∙ ap (λ ps. coded_among 0 0 (take i ms) ++ ps) (one_coded 0 i x code is'))
        ∙ length-append (coded_among 0 0 (take i ms)) ((0, i) ∷ []))

pub counted_past : (ms : List Method) (i n : ℕ) (x : Method) → i < length ms → x ≡ get_or ms i x → is_some x.code ≡ false
    → n ≡ length (coded_among 0 0 (take i ms)) → n ≡ length (coded_among 0 0 (take (i + 1) ms))
counted_past ms i n x l is has e = by x.code refl has
  where
    by : (o : Option Code) → x.code ≡ o → is_some o ≡ false → n ≡ length (coded_among 0 0 (take (i + 1) ms))
    by None is' g = e ∙ sym (ap length (coded_to ms i 0 x l is ∙ ap (λ ps. coded_among 0 0 (take i ms) ++ ps) (none_coded 0 i x is')
        ∙ append-nil (coded_among 0 0 (take i ms))))
    by (Some code) is' g = cc

-- what is known of a class's methods so far
pub record LinksSoFar (program : List ClassParts) (k : ℕ) (ms : List Method) (i : ℕ) (old now : List LinkedMethod) : Type 0 where
  pub places : map place_of now ≡ map place_of old ++ coded_among k 0 (take i ms)
  pub linked : AllByRecursion (LinksAlone program) old → AllByRecursion (LinksAlone program) now

pub so_far_past : (program : List ClassParts) (k : ℕ) (ms : List Method) (i : ℕ) (x : Method) (old now : List LinkedMethod) → i < length ms → x ≡ get_or ms i x
    → x.code ≡ None → LinksSoFar program k ms i old now → LinksSoFar program k ms (i + 1) old now
so_far_past program k ms i x old now l is none h = record {
  places = h.places
      ∙ ap (λ ps. map place_of old ++ ps)
      (sym (coded_to ms i k x l is ∙ ap (λ ps. coded_among k 0 (take i ms) ++ ps) (none_coded k i x none) ∙ append-nil (coded_among k 0 (take i ms))));
  linked = h.linked;
}

alone : (program : List ClassParts) (k i : ℕ) (c : ClassParts) (x : Method) (code : Code) (m : LinkedMethod) → slice_get program k ≡ Some c → Fits c
    → slice_get c.methods i ≡ Some x → x.code ≡ Some code → LinksCode program k i c.name x code m → LinksAlone program m
alone program k i c x code m class fits method is h = record {
  class = c;
  fits = fits;
  class_is = ap (slice_get program) h.class_is ∙ class;
  method = x;
  method_is = ap (slice_get c.methods) h.member_is ∙ method;
  code = code;
  code_is = is;
  links = record {
    class_is = refl;
    member_is = refl;
    parameters = h.parameters;
    result = h.result;
    synchronized = h.synchronized;
    max_stack = h.max_stack;
    max_locals = h.max_locals;
    instructions = h.instructions;
    handlers = h.handlers;
    catch_types = h.catch_types;
  };
}

pub so_far_more : (program : List ClassParts) (k : ℕ) (c : ClassParts) (ms : List Method) (i n : ℕ) (x : Method) (code : Code) (m : LinkedMethod)
    (old now next : List LinkedMethod)
    → slice_get program k ≡ Some c → Fits c → ms ≡ c.methods → i < length ms → x ≡ get_or ms i x → x.code ≡ Some code → n ≡ i
    → LinksCode program k n c.name x code m → next ≡ now ++ m ∷ [] → LinksSoFar program k ms i old now → LinksSoFar program k ms (i + 1) old next
so_far_more program k c ms i n x code m old now next class fits same l is has number links pushed h =
    let at : slice_get c.methods n ≡ Some x = ap (λ xs. slice_get xs n) (sym same) ∙ ap (slice_get ms) number ∙ slice_get_read ms (length ms) i x refl l is in
    let place : place_of m ≡ (k, i) = ap (λ a. (a, m.member)) links.class_is ∙ ap (λ b. (k, b)) (links.member_is ∙ number) in
    record {
      places = ap (map place_of) pushed ∙ map_more place_of now m ∙ ap (λ p. map place_of now ++ p ∷ []) place
          ∙ ap (λ ps. ps ++ (k, i) ∷ []) h.places ∙ append_assoc (map place_of old) (coded_among k 0 (take i ms)) ((k, i) ∷ [])
          ∙ ap (λ ps. map place_of old ++ ps)
          (sym (coded_to ms i k x l is ∙ ap (λ ps. coded_among k 0 (take i ms) ++ ps) (one_coded k i x code has)));
      linked = λ a. subst (AllByRecursion (LinksAlone program)) (sym pushed) (each_and_more (LinksAlone program) now m (h.linked a)
          (alone program k n c x code m class fits at has links));
    }

-- one more class
pub classes_to : (cs : List ClassParts) (i k : ℕ) (c : ClassParts) (old now : List LinkedMethod) → i < length cs → c ≡ get_or cs i c → k ≡ i
    → map place_of old ≡ coded_from 0 (take i cs) → map place_of now ≡ map place_of old ++ coded_among k 0 c.methods
    → map place_of now ≡ coded_from 0 (take (i + 1) cs)
classes_to cs i k c old now l is number h e =
    let more : take (i + 1) cs ≡ take i cs ++ c ∷ [] = rw (take_more cs i c l, ← is) refl in
    let taken = length-take-le i cs (omega (arith, l)) in
    let long : 0 + length (take i cs) ≡ i = omega (arith, taken) in
    e ∙ ap (λ ps. ps ++ coded_among k 0 c.methods) h
    ∙ ap (λ n. coded_from 0 (take i cs) ++ coded_among n 0 c.methods) (number ∙ sym long)
    ∙ sym (ap (coded_from 0) more ∙ classes_more (take i cs) 0 c)
