-- Main is the method that a program has under main's name.
use Rattle.std.proofs.Common.{◌≡◌, List, [], ◌∷◌, Option, Some, None, Bool, true, false, refl, sym, ap, ◌∙◌, subst}
use Rattle.std.specs.Prelude.{◌&&◌, codes, nat_eq}
use Rattle.std.specs.Cmp.Lexicographic.{same_text as text_told}
use Rattle.std.proofs.lemmas.Bool.{eqb-true}
use Rattle.jm_program.specs.Names.{same_text}
use Rattle.jm_program.specs.declared.class.ClassParts.{ClassParts}
use Rattle.jm_program.specs.declared.class.Method.{Method}
use Rattle.jm_program.specs.declared.descriptor.ElementType.{ElementType}
use Rattle.jm_program.specs.declared.descriptor.ElementType.TheVariants.{Base, Class}
use Rattle.jm_program.specs.declared.descriptor.FieldType.{FieldType}
use Rattle.jm_program.specs.declared.descriptor.MethodDescriptor.{MethodDescriptor}
use Rattle.jm_program.proofs.Texts.{text_itself}
use Rattle.jm_program.proofs.Truths.{both_true}
use Rattle.jm_world.specs.Types.{same_element, same_type, same_types, same_result, same_method_type}
use Rattle.jm_world.specs.Classes.{FoundMethod, MethodName, name_of_method, method_named, class_named, class_among, method_in, method_of_class, string_class}
use Rattle.jm_world.specs.Loading.{main_in, main_type, strings_type}
use Rattle.jm_linked.proofs.PrintStreams.{void_is}

element_is : (e : ElementType) → same_element e (Class string_class) ≡ true → e ≡ Class string_class
element_is (Base b) h = cc
element_is (Class name) h = ap Class (text_told name string_class (sym h))

type_is : (t : FieldType) → same_type t strings_type ≡ true → t ≡ strings_type
type_is t h =
    let p = both_true (nat_eq t.dimensions 1) (same_element t.element (Class string_class)) h in
    let d : t.dimensions ≡ 1 = eqb-true t.dimensions 1 p.0 in
    let e : t.element ≡ Class string_class = element_is t.element p.1 in
    λ i. record { dimensions = d i; element = e i }

types_are : (ts : List FieldType) → same_types ts (strings_type ∷ []) ≡ true → ts ≡ strings_type ∷ []
types_are [] h = cc
types_are (t ∷ []) h = ap (λ x. x ∷ []) (type_is t (both_true (same_type t strings_type) true h).0)
types_are (t ∷ u ∷ us) h = let p = both_true (same_type t strings_type) false h in cc

main_type_is : (d : MethodDescriptor) → same_method_type d main_type ≡ true → d ≡ main_type
main_type_is d h =
    let p = both_true (same_types d.parameters (strings_type ∷ [])) (same_result d.return_type None) h in
    let a : d.parameters ≡ strings_type ∷ [] = types_are d.parameters p.0 in
    let b : d.return_type ≡ None = void_is d.return_type p.1 in
    λ i. record { parameters = a i; return_type = b i }

-- the method that is found as main has main's name and type
found_named : (ms : List Method) (m : Method) → method_in ms (codes "main") main_type ≡ Some m → (m.name ≡ codes "main") × (m.descriptor ≡ main_type)
found_named [] m e = cc
found_named (x ∷ xs) m e = by (same_text x.name (codes "main") && same_method_type x.descriptor main_type) refl e (found_named xs m)
  where
    by : (b : Bool) → (same_text x.name (codes "main") && same_method_type x.descriptor main_type) ≡ b → elim b as (λ v. Option Method) [ true ↦ Some x | false ↦ method_in xs (codes "main") main_type ] ≡ Some m
        → (method_in xs (codes "main") main_type ≡ Some m → (m.name ≡ codes "main") × (m.descriptor ≡ main_type)) → (m.name ≡ codes "main") × (m.descriptor ≡ main_type)
    by true t e f =
        let p = both_true (same_text x.name (codes "main")) (same_method_type x.descriptor main_type) t in
        let same : x ≡ m = cc in
        subst (λ (y : Method). (y.name ≡ codes "main") × (y.descriptor ≡ main_type)) same (text_told x.name (codes "main") (sym p.0), main_type_is x.descriptor p.1)
    by false t e f = f e

main_of_class : (c : ClassParts) (cs : List ClassParts) (m : MethodName) → m.class ≡ c.name → method_named (c ∷ cs) m ≡ method_in c.methods m.name m.descriptor
unfolding class_named
main_of_class c cs m e =
    ap (λ b. method_of_class (elim b as (λ v. Option ClassParts) [ true ↦ Some c | false ↦ class_among cs m.class ]) m) (subst (λ x. same_text c.name x ≡ true) (sym e) (text_itself c.name))

pub main_is : (program : List ClassParts) (found : FoundMethod) (m : Method) → main_in program ≡ Some found → method_named program (name_of_method found) ≡ Some m → found.method ≡ m
main_is [] found m e n = cc
main_is (c ∷ cs) found m e n = by (method_in c.methods (codes "main") main_type) refl e
  where
    by : (o : Option Method) → method_in c.methods (codes "main") main_type ≡ o → elim o as (λ v. Option FoundMethod) [ None ↦ None | Some x ↦ Some (record { class = c; method = x }) ] ≡ Some found → found.method ≡ m
    by None t e = cc
    by (Some x) t e =
        let f : record { class = c; method = x } ≡ found = cc in
        let class_is : found.class.name ≡ c.name = ap (λ (y : FoundMethod). y.class.name) (sym f) in
        let method_is : found.method ≡ x = ap (λ (y : FoundMethod). y.method) (sym f) in
        let parts = found_named c.methods x t in
        let same : method_in c.methods found.method.name found.method.descriptor ≡ Some m = sym (main_of_class c cs (name_of_method found) class_is) ∙ n in
        let at_main : method_in c.methods (codes "main") main_type ≡ Some m =
        (λ i. method_in c.methods ((sym (ap (λ (y : Method). y.name) method_is ∙ parts.0)) i) ((sym (ap (λ (y : Method). y.descriptor) method_is ∙ parts.1)) i)) ∙ same in
        let x_is : Some x ≡ Some m = sym t ∙ at_main in
        let last : x ≡ m = cc in
        method_is ∙ last
