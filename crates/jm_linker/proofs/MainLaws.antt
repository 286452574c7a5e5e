-- The first class's main, and methods by their numbers.
use Rattle.std.proofs.Common.{◌≡◌, ℕ, ◌+◌, ◌<◌, zero, suc, Bool, true, false, ◌&&◌, List, [], ◌∷◌, ◌++◌, Option, Some, None, length, get_or, drop}
use Rattle.std.proofs.Common.{take, refl, sym, ap, subst, ◌∙◌, codes, arith}
use Rattle.std.specs.Prelude.{slice_get, is_some, map}
use Rattle.std.specs.List.{AllByRecursion, list_all}
use Rattle.std.proofs.lemmas.Cmp.{nat_list_eq_equiv}
use Rattle.std.proofs.lemmas.List.{drop_more, append-nil, append_assoc}
use Rattle.std.proofs.lemmas.Option.{slice_get_read}
use Rattle.jm_program.specs.Names.{same_text}
use Rattle.jm_program.specs.Flags.{is_interface, is_static}
use Rattle.jm_program.specs.Fits.{Fits, method_fits, body_fits, method_slots}
use Rattle.jm_program.specs.Codes.{code_fits}
use Rattle.jm_program.specs.Instructions.{instr_fits}
use Rattle.jm_program.specs.declared.class.ClassParts.{ClassParts}
use Rattle.jm_program.specs.declared.class.Method.{Method}
use Rattle.jm_program.specs.declared.code.Code.{Code}
use Rattle.jm_program.specs.declared.descriptor.MethodDescriptor.{MethodDescriptor}
use Rattle.jm_program.proofs.Sequences.{got_front}
use Rattle.jm_program.proofs.Truths.{both_true as both, passed_at}
use Rattle.jm_world.specs.Types.{same_method_type}
use Rattle.jm_world.specs.Classes.{FoundMethod, method_in, method_of_class, method_named, name_of_method}
use Rattle.jm_world.specs.Loading.{literal_texts, main_type, main_in}
use Rattle.jm_world.specs.Loads.{Loads, refusal, is_main, first_of_all, duplicates, duplicate_members, duplicate_member}
use Rattle.jm_world.specs.Loads.{duplicate_fields, duplicate_methods}
use Rattle.jm_world.proofs.Refusing.{both_none, not_refused, none_of_all}
use Rattle.jm_linker.specs.MainMethod.{is_main_method}
use Rattle.jm_linked.specs.Links.{LinkedView, MethodLinks, IsLinked, coded_among, coded_from, place_of}
use Rattle.jm_linked.specs.declared.method.LinkedMethod.{LinkedMethod}
use Rattle.jm_linked.proofs.Classes.{class_is}
use Rattle.jm_linked.proofs.Coded.{placed, placed_name}
use Rattle.jm_linked.specs.declared.tables.Tables.{Tables}
use Rattle.jm_linked.specs.Tables.{AreTables}
use Rattle.jm_linker.specs.LinkedMethods.{LinksAlone, NumbersMain}
use Rattle.jm_linker.proofs.TableLaws.{same_method_type_equiv}
use Rattle.jm_values.proofs.Lists.{each_at}

-- the method at a place is the first of a name and a type, after others that are not
pub method_here : (name : List ℕ) (t : MethodDescriptor) (ms : List Method) (i : ℕ) (m : Method) → i < length ms → m ≡ get_or ms i m
    → (same_text m.name name && same_method_type m.descriptor t) ≡ true → method_in ms name t ≡ method_in (drop i ms) name t
    → method_in ms name t ≡ slice_get ms i
method_here name t ms i m l is so e =
    let here : drop i ms ≡ m ∷ drop (i + 1) ms = rw (drop_more ms i m l, ← is) refl in
    e ∙ ap (λ xs. method_in xs name t) here
    ∙ ap (λ b. elim b as (λ _. Option Method) [ true ↦ Some m | false ↦ method_in (drop (i + 1) ms) name t ]) so
    ∙ sym (slice_get_read ms (length ms) i m refl l is)

pub main_here : (ms : List Method) (i : ℕ) (m : Method) → i < length ms → m ≡ get_or ms i m → is_main_method m ≡ true
    → method_in ms (codes "main") main_type ≡ method_in (drop i ms) (codes "main") main_type → method_in ms (codes "main") main_type ≡ slice_get ms i
main_here ms i m l is main e = method_here (codes "main") main_type ms i m l is main e

instructions_fit : (c : ClassParts) (i : ℕ) (m : Method) (code : Code) → Fits c → slice_get c.methods i ≡ Some m → m.code ≡ Some code → list_all (instr_fits (length code.instructions)) code.instructions ≡ true
instructions_fit c i m code fits at is =
    let method : method_fits (is_interface c.flags) m ≡ true = passed_at (method_fits (is_interface c.flags)) c.methods i m fits.methods at in
    let body : body_fits (is_interface c.flags) m m.code ≡ true = (both _ _ method).1 in
    let of_code : body_fits (is_interface c.flags) m (Some code) ≡ true = sym (ap (body_fits (is_interface c.flags) m) is) ∙ body in
    let good : code_fits (method_slots m) code ≡ true = (both _ _ of_code).1 in
    (both _ _ (both _ _ (both _ _ good).0).0).1

passed_over : (b : Bool) (x : Method) (o : Option Method) → is_some (elim b as (λ _. Option Method) [ true ↦ Some x | false ↦ o ]) ≡ false
    → (b ≡ false) × (is_some o ≡ false)
passed_over true x o e = cc
passed_over false x o e = (refl, e)

new_method : (seen ms : List Method) (k : ℕ) (m : Method) → duplicate_methods seen ms ≡ None → slice_get ms k ≡ Some m
    → is_some (method_in seen m.name m.descriptor) ≡ false
new_method seen [] k m e at = cc
new_method seen (x ∷ xs) zero m e at =
    let same : x ≡ m = cc in
    subst (λ (y : Method). is_some (method_in seen y.name y.descriptor) ≡ false) same (not_refused (is_some (method_in seen x.name x.descriptor))
    (duplicate_member x.name) (both_none _ _ e).0)
new_method seen (x ∷ xs) (suc k) m e at =
    (passed_over (same_text x.name m.name && same_method_type x.descriptor m.descriptor) x (method_in seen m.name m.descriptor)
    (new_method (x ∷ seen) xs k m (both_none _ _ e).1 at)).1

pub same_itself : (m : Method) → (same_text m.name m.name && same_method_type m.descriptor m.descriptor) ≡ true
same_itself m = ap (λ b. b && same_method_type m.descriptor m.descriptor) (nat_list_eq_equiv.refl m.name) ∙ same_method_type_equiv.refl m.descriptor

method_again : (seen ms : List Method) (k : ℕ) (m : Method) → duplicate_methods seen ms ≡ None → slice_get ms k ≡ Some m
    → method_in ms m.name m.descriptor ≡ Some m
method_again seen [] k m e at = cc
method_again seen (x ∷ xs) zero m e at =
    let same : x ≡ m = cc in
    subst (λ (y : Method). method_in (x ∷ xs) y.name y.descriptor ≡ Some y) same
    (ap (λ b. elim b as (λ _. Option Method) [ true ↦ Some x | false ↦ method_in xs x.name x.descriptor ]) (same_itself x))
method_again seen (x ∷ xs) (suc k) m e at =
    let rest = (both_none _ _ e).1 in
    let other = (passed_over (same_text x.name m.name && same_method_type x.descriptor m.descriptor) x (method_in seen m.name m.descriptor) (new_method
    (x ∷ seen) xs k m rest at)).0 in
    ap (λ b. elim b as (λ _. Option Method) [ true ↦ Some x | false ↦ method_in xs m.name m.descriptor ]) other ∙ method_again (x ∷ seen) xs k m rest at

-- no method before it has its name and type
pub none_before : (seen ms : List Method) (k : ℕ) (m : Method) → duplicate_methods seen ms ≡ None → slice_get ms k ≡ Some m
    → method_in (take k ms) m.name m.descriptor ≡ None
none_before seen [] k m e at = cc
none_before seen (x ∷ xs) zero m e at = refl
none_before seen (x ∷ xs) (suc k) m e at =
    let rest = (both_none _ _ e).1 in
    let other = (passed_over (same_text x.name m.name && same_method_type x.descriptor m.descriptor) x (method_in seen m.name m.descriptor) (new_method
    (x ∷ seen) xs k m rest at)).0 in
    ap (λ b. elim b as (λ _. Option Method) [ true ↦ Some x | false ↦ method_in (take k xs) m.name m.descriptor ]) other ∙ none_before (x ∷ seen) xs k m rest at

methods_once : (program : List ClassParts) → Loads program → (k : ℕ) (c : ClassParts) → slice_get program k ≡ Some c → duplicate_methods [] c.methods ≡ None
unfolding refusal
methods_once program loads k c at =
    let members = (both_none (first_of_all duplicate_members program) _ (both_none (duplicates [] program) _ loads).1).0 in
    (both_none (duplicate_fields [] c.fields) (duplicate_methods [] c.methods) (none_of_all duplicate_members program k c members at)).1

named_again : (program : List ClassParts) → Loads program → (k j : ℕ) (c : ClassParts) (m : Method) → slice_get program k ≡ Some c
    → slice_get c.methods j ≡ Some m
    → method_named program (name_of_method (record { class = c; method = m })) ≡ Some m
named_again program loads k j c m at there =
    ap (λ o. method_of_class o (name_of_method (record { class = c; method = m }))) (class_is program loads k c at)
    ∙ method_again [] c.methods j m (methods_once program loads k c at) there

-- a linked method, where the program loads
pub method_links : (l : LinkedView) → Loads l.program → (m : LinkedMethod) → LinksAlone l.program m → MethodLinks l m
method_links l loads m a = record {
  class = a.class;
  method = a.method;
  code = a.code;
  class_is = a.class_is;
  class_fits = a.fits;
  method_is = a.method_is;
  code_is = a.code_is;
  named = named_again l.program loads m.class m.member a.class a.method a.class_is a.method_is;
  parameters = a.links.parameters;
  result = a.links.result;
  synchronized = a.links.synchronized;
  max_stack = a.links.max_stack;
  max_locals = a.links.max_locals;
  instructions = a.links.instructions;
  fits = instructions_fit a.class m.member a.method a.code a.fits a.method_is a.code_is;
  handlers = a.links.handlers;
  catch_types = a.links.catch_types;
}

pub is_linked : (program : List ClassParts) (methods : List LinkedMethod) (literals : List (List ℕ)) (tables : Tables) (main : ℕ) → Loads program
    → map place_of methods ≡ coded_from 0 program → AllByRecursion (LinksAlone program) methods → literals ≡ literal_texts program
    → AreTables program tables → NumbersMain program main
    → IsLinked (record { program = program; methods = methods; literals = literals; tables = tables; main = main })
is_linked program methods literals tables main loads places linked texts are n =
    let l : LinkedView = record { program = program; methods = methods; literals = literals; tables = tables; main = main } in
    let p = placed methods main 0 n.member (ap (λ ps. slice_get ps main) places ∙ n.place) in
    record {
      loads = loads;
      methods = λ k m at. method_links l loads m (each_at (LinksAlone program) methods k m linked at);
      all = places;
      literals = texts;
      tables = are;
      main = p.method;
      main_is = p.at;
      found = n.found;
      found_is = n.found_is;
      main_name = placed_name program methods main 0 n.member n.found p n.class_is n.method_is;
    }

-- the place of a method with code, behind those before it
coded_at : (ms : List Method) (k i j : ℕ) (m : Method) (code : Code) → slice_get ms j ≡ Some m → m.code ≡ Some code
    → slice_get (coded_among k i ms) (length (coded_among k i (take j ms))) ≡ Some (k, i + j)
coded_at [] k i j m code at is = cc
coded_at (x ∷ xs) k i zero m code at is =
    let same : x ≡ m = cc in
    let all : i + 0 ≡ i = omega arith in
    ap (λ (o : Option Code). slice_get (elim o as (λ _. List (ℕ × ℕ)) [ None ↦ coded_among k (suc i) xs | Some c ↦ (k, i) ∷ coded_among k (suc i) xs ]) 0)
    (ap (λ (y : Method). y.code) same ∙ is)
    ∙ ap (λ n. Some (k, n)) (sym all)
coded_at (x ∷ xs) k i (suc j) m code at is = by x.code (coded_at xs k (suc i) j m code at is)
  where
    all : suc i + j ≡ i + suc j
    all = omega arith

    by : (o : Option Code) → slice_get (coded_among k (suc i) xs) (length (coded_among k (suc i) (take j xs))) ≡ Some (k, suc i + j)
        → slice_get (elim o as (λ _. List (ℕ × ℕ)) [ None ↦ coded_among k (suc i) xs | Some c ↦ (k, i) ∷ coded_among k (suc i) xs ])
        (length (elim o as (λ _. List (ℕ × ℕ)) [ None ↦ coded_among k (suc i) (take j xs) | Some c ↦ (k, i) ∷ coded_among k (suc i) (take j xs) ])) ≡ Some
        (k, i + suc j)
    by None e = e ∙ ap (λ n. Some (k, n)) all
    by (Some c) e = e ∙ ap (λ n. Some (k, n)) all

-- the number of main
main_there : (o : Option Method) (c : ClassParts) → is_main (elim o as (λ _. Option FoundMethod) [
  | None ↦ None
  | Some d ↦ Some
      (record { class = c; method = d })
]) ≡ true
    → (m : Method) × (code : Code) × (o ≡ Some m) × (m.code ≡ Some code)
main_there None c e = cc
main_there (Some m) c e = by m.code refl (both (is_static m.flags) (is_some m.code) e).1
  where
    by : (o : Option Code) → m.code ≡ o → is_some o ≡ true → (d : Method) × (code : Code) × (Some m ≡ Some d) × (d.code ≡ Some code)
    by None is g = cc
    by (Some code) is g = (m, code, refl, is)

pub numbers_main : (program : List ClassParts) (c : ClassParts) (ms : List Method) (i n : ℕ) → slice_get program 0 ≡ Some c → ms ≡ c.methods
    → is_main (main_in program) ≡ true
    → method_in ms (codes "main") main_type ≡ slice_get ms i → n ≡ length (coded_among 0 0 (take i ms)) → NumbersMain program n
numbers_main [] c ms i n first same loads main count = cc
numbers_main (k ∷ ks) c ms i n first same loads main count =
    let this : k ≡ c = cc in
    let mine : ms ≡ k.methods = same ∙ ap (λ (d : ClassParts). d.methods) (sym this) in
    let there = main_there (method_in k.methods (codes "main") main_type) k loads in
    let at : slice_get ms i ≡ Some there.0 = sym main ∙ ap (λ xs. method_in xs (codes "main") main_type) mine ∙ there.2 in
    let place = coded_at ms 0 0 i there.0 there.1 at there.3 in
    let all : 0 + i ≡ i = omega arith in
    record {
      found = record { class = k; method = there.0 };
      found_is = ap (λ o. elim o as (λ _. Option FoundMethod) [ None ↦ None | Some d ↦ Some (record { class = k; method = d }) ]) there.2;
      member = i;
      place = ap (slice_get (coded_from 0 (k ∷ ks))) count
          ∙ ap (λ xs. slice_get (coded_among 0 0 xs ++ coded_from 1 ks) (length (coded_among 0 0 (take i ms)))) (sym mine)
          ∙ got_front (coded_among 0 0 ms) (coded_from 1 ks) (length (coded_among 0 0 (take i ms))) (0, i) (place ∙ ap (λ x. Some (0, x)) all);
      class_is = refl;
      method_is = ap (λ xs. slice_get xs i) (sym mine) ∙ at;
    }

-- one more method, and one more class
pub coded_more : (ms : List Method) (k i : ℕ) (m : Method) → coded_among k i (ms ++ m ∷ []) ≡ coded_among k i ms ++ coded_among k (i + length ms) (m ∷ [])
coded_more [] k i m = let all : i + 0 ≡ i = omega arith in ap (λ n. coded_among k n (m ∷ [])) (sym all)
coded_more (x ∷ xs) k i m = by x.code (coded_more xs k (suc i) m ∙ ap (λ n. coded_among k (suc i) xs ++ coded_among k n (m ∷ [])) all)
  where
    all : suc i + length xs ≡ i + length (x ∷ xs)
    all = omega arith

    by : (o : Option Code) → coded_among k (suc i) (xs ++ m ∷ []) ≡ coded_among k (suc i) xs ++ coded_among k (i + length (x ∷ xs)) (m ∷ [])
        → (elim o as (λ _. List (ℕ × ℕ)) [ None ↦ coded_among k (suc i) (xs ++ m ∷ []) | Some c ↦ (k, i) ∷ coded_among k (suc i) (xs ++ m ∷ []) ])
        ≡ (elim o as (λ _. List (ℕ × ℕ)) [ None ↦ coded_among k (suc i) xs | Some c ↦ (k, i) ∷ coded_among k (suc i) xs ]) ++ coded_among k (i + length
        (x ∷ xs)) (m ∷ [])
    by None e = e
    by (Some c) e = ap (λ ps. (k, i) ∷ ps) e

pub classes_more : (cs : List ClassParts) (k : ℕ) (c : ClassParts) → coded_from k (cs ++ c ∷ []) ≡ coded_from k cs ++ coded_among (k + length cs) 0 c.methods
classes_more [] k c = let all : k + 0 ≡ k = omega arith in append-nil (coded_among k 0 c.methods) ∙ ap (λ n. coded_among n 0 c.methods) (sym all)
classes_more (d ∷ ds) k c =
    let all : suc k + length ds ≡ k + length (d ∷ ds) = omega arith in
    ap (λ ps. coded_among k 0 d.methods ++ ps) (classes_more ds (suc k) c ∙ ap (λ n. coded_from (suc k) ds ++ coded_among n 0 c.methods) all)
    ∙ sym (append_assoc (coded_among k 0 d.methods) (coded_from (suc k) ds) (coded_among (k + length (d ∷ ds)) 0 c.methods))
