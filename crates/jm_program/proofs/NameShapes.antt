-- A descriptor has the shape of one: the name of a class has no ;.
use Rattle.std.proofs.Common.{◌≡◌, ℕ, Bool, true, false, not, cond, ◌&&◌, ◌||◌, eqb, List, [], ◌∷◌, Option, Some, None, refl, sym, ap, ◌∙◌, arith}
use Rattle.std.proofs.lemmas.Bool.{eqb-true, and_from}
use Rattle.std.specs.List.{list_all, slice_split, onto_first}
use Rattle.std.proofs.lemmas.Bool.Decides.{nat_tests}
use Rattle.jm_program.specs.Names.{is_name_unit, is_unqualified, is_class_name}
use Rattle.jm_program.specs.Descriptors.{argument_slots, is_name_shape, is_element_shape, is_field_shape, is_return_shape, is_method_shape, is_shape, is_named_element, is_field_type, is_return_type, is_method_type, is_descriptor}
use Rattle.jm_program.specs.declared.descriptor.ElementType.{ElementType}
use Rattle.jm_program.specs.declared.descriptor.ElementType.TheVariants.{Base, Class}
use Rattle.jm_program.specs.declared.descriptor.FieldType.{FieldType}
use Rattle.jm_program.specs.declared.descriptor.MethodDescriptor.{MethodDescriptor}
use Rattle.jm_program.specs.declared.descriptor.Descriptor.{Descriptor}
use Rattle.jm_program.specs.declared.descriptor.Descriptor.TheVariants.{Field, Method}
use Rattle.jm_program.proofs.Truths.{both_true}

-- what each element passes that passes another test
pub list_all_weaker : {A : Type 0} (p q : A → Bool) → ((x : A) → p x ≡ true → q x ≡ true) → (xs : List A) → list_all p xs ≡ true → list_all q xs ≡ true
list_all_weaker p q weaker [] h = refl
list_all_weaker p q weaker (x ∷ xs) h =
    let parts = both_true (p x) (list_all p xs) h in
    and_from (q x) (list_all q xs) (weaker x parts.0) (list_all_weaker p q weaker xs parts.1)

unit_shape : (u : ℕ) → is_name_unit u ≡ true → not (eqb u 59) ≡ true
unit_shape u h = grind (arith, nat_tests)

part_shape : (part : List ℕ) → is_unqualified part ≡ true → is_name_shape part ≡ true
part_shape part h = list_all_weaker is_name_unit (λ u. not (eqb u 59)) unit_shape part (both_true _ _ h).1

first_shape : (u : ℕ) (parts : List (List ℕ)) → list_all is_name_shape (onto_first u parts) ≡ true → (not (eqb u 59) ≡ true) × (list_all is_name_shape parts ≡ true)
first_shape u [] h = ((both_true _ _ (both_true _ _ h).0).0, refl)
first_shape u (part ∷ parts) h =
    let split = both_true (is_name_shape (u ∷ part)) (list_all is_name_shape parts) h in
    let first = both_true (not (eqb u 59)) (is_name_shape part) split.0 in
    (first.0, and_from (is_name_shape part) (list_all is_name_shape parts) first.1 split.1)

joined_shape_on : (u : ℕ) (units : List ℕ) (parts : List (List ℕ)) (b : Bool) → eqb u 47 ≡ b → (list_all is_name_shape parts ≡ true → is_name_shape units ≡ true)
    → list_all is_name_shape (cond b ([] ∷ parts) (onto_first u parts)) ≡ true → is_name_shape (u ∷ units) ≡ true
joined_shape_on u units parts true is below h =
    let same : u ≡ 47 = eqb-true u 47 is in
    let other : not (eqb u 59) ≡ true = ap (λ (v : ℕ). not (eqb v 59)) same in
    and_from (not (eqb u 59)) (is_name_shape units) other (below h)
joined_shape_on u units parts false is below h =
    let first = first_shape u parts h in
    and_from (not (eqb u 59)) (is_name_shape units) first.0 (below first.1)

joined_shape : (units : List ℕ) → list_all is_name_shape (slice_split (λ u. eqb u 47) units) ≡ true → is_name_shape units ≡ true
joined_shape [] h = refl
joined_shape (u ∷ units) h = joined_shape_on u units (slice_split (λ v. eqb v 47) units) (eqb u 47) refl (joined_shape units) h

pub name_shape : (name : List ℕ) → is_class_name name ≡ true → is_name_shape name ≡ true
name_shape name h = joined_shape name (list_all_weaker is_unqualified is_name_shape part_shape (slice_split (λ u. eqb u 47) name) h)

element_shape : (e : ElementType) → is_named_element e ≡ true → is_element_shape e ≡ true
element_shape (Base b) h = refl
element_shape (Class name) h = name_shape name h

field_shape : (t : FieldType) → is_field_type t ≡ true → is_field_shape t ≡ true
field_shape t h = let parts = both_true _ _ h in and_from _ _ parts.0 (element_shape t.element parts.1)

return_shape : (r : Option FieldType) → is_return_type r ≡ true → is_return_shape r ≡ true
return_shape None h = refl
return_shape (Some t) h = field_shape t h

pub descriptor_shape : (d : Descriptor) → is_descriptor d ≡ true → is_shape d ≡ true
descriptor_shape (Field t) h = field_shape t h
descriptor_shape (Method d) h =
    let some = both_true _ _ h in
    let parts = both_true _ _ some.0 in
    and_from _ _ (and_from _ _ (list_all_weaker is_field_type is_field_shape field_shape d.parameters parts.0) (return_shape d.return_type parts.1)) some.1
