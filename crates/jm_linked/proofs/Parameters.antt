-- What the parameters of the methods that a selector stands for hold.
use Rattle.std.proofs.Common.{◌≡◌, ℕ, zero, suc, ◌+◌, Bool, true, false, ◌&&◌, List, [], ◌∷◌, Option, Some, None, refl, sym, ap, ◌∙◌, arith}
use Rattle.std.specs.Prelude.{map, slice_get, slice_index_or}
use Rattle.jm_program.specs.Names.{same_text}
use Rattle.jm_program.specs.declared.descriptor.MethodDescriptor.{MethodDescriptor}
use Rattle.jm_program.proofs.Truths.{both_true}
use Rattle.jm_world.specs.Classes.{FoundMethod, MethodName, name_of_method}
use Rattle.jm_world.specs.Types.{same_method_type}
use Rattle.jm_world.proofs.FoundAgain.{method_type_is}
use Rattle.jm_linked.specs.Kinds.{kind_of}
use Rattle.jm_linked.specs.Links.{IsLinked, LinkedView, linked_name, member_name, name_in_class}
use Rattle.jm_linked.specs.Methods.{all_methods, first_named, selector_of}
use Rattle.jm_linked.specs.declared.method.LinkedMethod.{LinkedMethod}
use Rattle.jm_linked.proofs.Coded.{method_selected}

-- the first method of a name and a type has that type
pub record IsFirst (k n : ℕ) (fs : List FoundMethod) (t : MethodDescriptor) : Type 0 where
  pub past : ℕ
  pub number : n ≡ k + past
  pub found : FoundMethod
  pub there : slice_get fs past ≡ Some found
  pub type : found.method.descriptor ≡ t

first_is : (k n : ℕ) (fs : List FoundMethod) (name : List ℕ) (t : MethodDescriptor) → first_named k fs name t ≡ Some n → IsFirst k n fs t
first_is k n [] name t e = cc
first_is k n (f ∷ fs) name t e = by (same_text f.method.name name && same_method_type f.method.descriptor t) refl e (first_is (k + 1) n fs name t)
  where
    by : (b : Bool) → (same_text f.method.name name && same_method_type f.method.descriptor t) ≡ b
        → (elim b as (λ _. Option ℕ) [ true ↦ Some k | false ↦ first_named (k + 1) fs name t ]) ≡ Some n
        → (first_named (k + 1) fs name t ≡ Some n → IsFirst (k + 1) n fs t) → IsFirst k n (f ∷ fs) t
    by true is g next =
        let same : k ≡ n = cc in
        record {
          past = 0;
          number = omega (arith, same);
          found = f;
          there = refl;
          type = method_type_is f.method.descriptor t (both_true (same_text f.method.name name) (same_method_type f.method.descriptor t) is).1;
        }
    by false is g next =
        let rest = next g in
        record { past = suc rest.past; number = omega (arith, rest.number); found = rest.found; there = rest.there; type = rest.type }

-- the linked method of the first one's number says what the parameters of all of them hold
pub parameters_are : (l : LinkedView) → IsLinked l → (selector k : ℕ) (name : List ℕ) (t : MethodDescriptor) → selector_of l.program name t ≡ Some selector
    → Some k ≡ slice_index_or l.tables.codes selector None → (m : LinkedMethod) → slice_get l.methods k ≡ Some m → m.parameters ≡ map kind_of t.parameters
unfolding selector_of
parameters_are l linked selector k name t e code m at =
    let first = first_is 0 selector (all_methods l.program) name t e in
    let here : selector ≡ first.past = omega (arith, first.number) in
    let selected = method_selected l linked selector (Some first.found) (Some k) code (ap (slice_get (all_methods l.program)) here ∙ first.there) in
    let links = linked.methods k m at in
    let both : Some selected.1 ≡ Some m = sym selected.2 ∙ at in
    let same : selected.1 ≡ m = cc in
    let own : linked_name l.program m ≡ name_of_method (record { class = links.class; method = links.method }) =
    ap (λ o. name_in_class o m.member) links.class_is ∙ ap (member_name links.class) links.method_is in
    let named : name_of_method (record { class = links.class; method = links.method }) ≡ name_of_method first.found =
    sym own ∙ ap (linked_name l.program) (sym same) ∙ selected.3 in
    links.parameters ∙ ap (λ (n : MethodName). map kind_of n.descriptor.parameters) named
    ∙ ap (λ (d : MethodDescriptor). map kind_of d.parameters) first.type
