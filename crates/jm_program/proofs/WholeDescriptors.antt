-- A whole text is read as a descriptor exactly where it has its shape.
use Rattle.std.proofs.Common.{◌≡◌, ℕ, zero, suc, ◌+◌, ◌<◌, ◌≤◌, Bool, true, false, not, cond, ◌&&◌, eqb, leb, List, [], ◌∷◌, ◌++◌, length, Option, Some, None, refl, sym, ap, subst, ◌∙◌, append_assoc, arith, IsTrue}
use Rattle.std.proofs.lemmas.Bool.{eqb-true, and_from}
use Rattle.std.proofs.lemmas.List.{length-append, append-nil, nil_from_length}
use Rattle.std.proofs.lemmas.Option.{same_Some}
use Rattle.std.specs.List.{list_all, flat_map, slice_split}
use Rattle.jm_program.specs.Names.{is_name_unit, is_unqualified, is_class_name}
use Rattle.jm_program.specs.DescriptorReading.{and_then, field_at, parameters_at, whole_field, whole_return, whole_method, whole_descriptor, with_few_slots}
use Rattle.jm_program.specs.Descriptors.{field_text, return_text, method_text, descriptor_text, argument_slots, is_name_shape, is_element_shape, is_field_shape, is_return_shape, is_method_shape, is_shape, HasShape, Spells, is_named_element, is_field_type, is_return_type, is_method_type, is_descriptor}
use Rattle.jm_program.specs.declared.descriptor.ElementType.{ElementType}
use Rattle.jm_program.specs.declared.descriptor.ElementType.TheVariants.{Base, Class}
use Rattle.jm_program.specs.declared.descriptor.FieldType.{FieldType}
use Rattle.jm_program.specs.declared.descriptor.MethodDescriptor.{MethodDescriptor}
use Rattle.jm_program.specs.declared.descriptor.Descriptor.{Descriptor}
use Rattle.jm_program.specs.declared.descriptor.Descriptor.TheVariants.{Field, Method}
use Rattle.jm_program.proofs.DescriptorLaws.{and_then_inverse, cond_inverse, field_front, field_complete, field_sound, parameters_complete, parameters_sound}
use Rattle.jm_program.proofs.ParameterLoop.{texts_long}
use Rattle.jm_program.proofs.Truths.{both_true}

field_whole_sound : (units : List ℕ) (t : FieldType) → whole_field units ≡ Some t → (units ≡ field_text t) × (is_field_shape t ≡ true)
unfolding whole_field
field_whole_sound units t h =
    let last : (FieldType × List ℕ) → Option FieldType = λ x. cond (eqb (length x.1) 0) (Some x.0) None in
    let step = and_then_inverse (field_at units) last t h in
    let parts = cond_inverse (eqb (length step.0.1) 0) (Some step.0.0) t step.2 in
    let none : step.0.1 ≡ [] = nil_from_length step.0.1 (eqb-true _ _ parts.0) in
    let found = field_sound units step.0.0 step.0.1 step.1 in
    let whole : units ≡ field_text step.0.0 = found.0 ∙ ap (λ (r : List ℕ). field_text step.0.0 ++ r) none ∙ append-nil (field_text step.0.0) in
    subst (λ (x : FieldType). (units ≡ field_text x) × (is_field_shape x ≡ true)) (same_Some _ _ parts.1) (whole, found.1)

field_whole_complete : (t : FieldType) → is_field_shape t ≡ true → whole_field (field_text t) ≡ Some t
unfolding whole_field
field_whole_complete t h =
    let read : field_at (field_text t) ≡ Some (t, []) = ap field_at (sym (append-nil (field_text t))) ∙ field_complete t [] h in
    rw read refl

return_sound_on : (u : ℕ) (units : List ℕ) (r : Option FieldType) (b : Bool) → eqb u 86 ≡ b
    → cond b (cond (eqb (length units) 0) (Some None) None) (and_then (whole_field (u ∷ units)) (λ t. Some (Some t))) ≡ Some r → (u ∷ units ≡ return_text r) × (is_return_shape r ≡ true)
return_sound_on u units r true is h =
    let nothing : Option FieldType = None in
    let parts = cond_inverse (eqb (length units) 0) (Some nothing) r h in
    let none : units ≡ [] = nil_from_length units (eqb-true _ _ parts.0) in
    let same : u ≡ 86 = eqb-true u 86 is in
    subst (λ (x : Option FieldType). (u ∷ units ≡ return_text x) × (is_return_shape x ≡ true)) (same_Some nothing r parts.1)
    (ap (λ (v : ℕ). v ∷ units) same ∙ ap (λ (us : List ℕ). 86 ∷ us) none, refl)
return_sound_on u units r false is h =
    let typed : FieldType → Option (Option FieldType) = λ t. Some (Some t) in
    let step = and_then_inverse (whole_field (u ∷ units)) typed r h in
    let found = field_whole_sound (u ∷ units) step.0 step.1 in
    subst (λ (x : Option FieldType). (u ∷ units ≡ return_text x) × (is_return_shape x ≡ true)) (same_Some _ r step.2) found

return_sound : (units : List ℕ) (r : Option FieldType) → whole_return units ≡ Some r → (units ≡ return_text r) × (is_return_shape r ≡ true)
unfolding whole_return
return_sound [] r h = cc
return_sound (u ∷ units) r h = return_sound_on u units r (eqb u 86) refl h

return_complete : (r : Option FieldType) → is_return_shape r ≡ true → whole_return (return_text r) ≡ Some r
unfolding whole_return
return_complete None h = refl
return_complete (Some t) h =
    let front = field_front t [] in
    let text : field_text t ≡ front.0 ∷ front.1 = sym (append-nil (field_text t)) ∙ front.2 in
    let read : whole_field (front.0 ∷ front.1) ≡ Some t = ap whole_field (sym text) ∙ field_whole_complete t h in
    rw (text, front.5, read) refl

method_sound : (units : List ℕ) (d : MethodDescriptor) → whole_method units ≡ Some d → (40 ∷ units ≡ method_text d) × (is_method_shape d ≡ true)
unfolding whole_method
method_sound units d h =
    let last : (ps : List FieldType) → Option FieldType → Option MethodDescriptor = λ ps r. with_few_slots (record { parameters = ps; return_type = r }) in
    let others : (List FieldType × List ℕ) → Option MethodDescriptor = λ x. and_then (whole_return x.1) (last x.0) in
    let step = and_then_inverse (parameters_at (length units) units) others d h in
    let next = and_then_inverse (whole_return step.0.1) (last step.0.0) d step.2 in
    let made : MethodDescriptor = record { parameters = step.0.0; return_type = next.0 } in
    let parts = cond_inverse (leb (argument_slots made) 255) (Some made) d next.2 in
    let ps = parameters_sound (length units) units step.0.0 step.0.1 step.1 in
    let r = return_sound step.0.1 next.0 next.1 in
    let whole : 40 ∷ units ≡ method_text made = ap (λ (us : List ℕ). 40 ∷ us) (ps.0 ∙ ap (λ (us : List ℕ). flat_map field_text step.0.0 ++ 41 ∷ us) r.0) in
    let shape : is_method_shape made ≡ true =
    and_from (list_all is_field_shape step.0.0 && is_return_shape next.0) (leb (argument_slots made) 255) (and_from (list_all is_field_shape step.0.0) (is_return_shape next.0) ps.1 r.1) parts.0 in
    subst (λ (x : MethodDescriptor). (40 ∷ units ≡ method_text x) × (is_method_shape x ≡ true)) (same_Some made d parts.1) (whole, shape)

method_complete : (d : MethodDescriptor) → is_method_shape d ≡ true → whole_method (flat_map field_text d.parameters ++ 41 ∷ return_text d.return_type) ≡ Some d
unfolding whole_method
method_complete d h =
    let some = both_true (list_all is_field_shape d.parameters && is_return_shape d.return_type) (leb (argument_slots d) 255) h in
    let parts = both_true (list_all is_field_shape d.parameters) (is_return_shape d.return_type) some.0 in
    let text : List ℕ = flat_map field_text d.parameters ++ 41 ∷ return_text d.return_type in
    let few : length d.parameters ≤ length text = omega (arith, texts_long d.parameters, length-append (flat_map field_text d.parameters) (41 ∷ return_text d.return_type)) in
    let read : parameters_at (length text) text ≡ Some (d.parameters, return_text d.return_type) = parameters_complete (length text) d.parameters (return_text d.return_type) few parts.0 in
    rw (read, return_complete d.return_type parts.1, some.1) refl

sound_on : (u : ℕ) (units : List ℕ) (d : Descriptor) (b : Bool) → eqb u 40 ≡ b
    → cond b (and_then (whole_method units) (λ m. Some (Method m))) (and_then (whole_field (u ∷ units)) (λ t. Some (Field t))) ≡ Some d → (u ∷ units ≡ descriptor_text d) × (is_shape d ≡ true)
sound_on u units d true is h =
    let typed : MethodDescriptor → Option Descriptor = λ m. Some (Method m) in
    let step = and_then_inverse (whole_method units) typed d h in
    let found = method_sound units step.0 step.1 in
    let same : u ≡ 40 = eqb-true u 40 is in
    subst (λ (x : Descriptor). (u ∷ units ≡ descriptor_text x) × (is_shape x ≡ true)) (same_Some _ d step.2) (ap (λ (v : ℕ). v ∷ units) same ∙ found.0, found.1)
sound_on u units d false is h =
    let typed : FieldType → Option Descriptor = λ t. Some (Field t) in
    let step = and_then_inverse (whole_field (u ∷ units)) typed d h in
    subst (λ (x : Descriptor). (u ∷ units ≡ descriptor_text x) × (is_shape x ≡ true)) (same_Some _ d step.2) (field_whole_sound (u ∷ units) step.0 step.1)

pub whole_sound : (units : List ℕ) (d : Descriptor) → whole_descriptor units ≡ Some d → (units ≡ descriptor_text d) × (is_shape d ≡ true)
unfolding whole_descriptor
whole_sound [] d h = cc
whole_sound (u ∷ units) d h = sound_on u units d (eqb u 40) refl h

pub whole_complete : (d : Descriptor) → is_shape d ≡ true → whole_descriptor (descriptor_text d) ≡ Some d
unfolding whole_descriptor
whole_complete (Method d) h = rw (method_complete d h) refl
whole_complete (Field t) h =
    let front = field_front t [] in
    let text : field_text t ≡ front.0 ∷ front.1 = sym (append-nil (field_text t)) ∙ front.2 in
    let read : whole_field (front.0 ∷ front.1) ≡ Some t = ap whole_field (sym text) ∙ field_whole_complete t h in
    rw (text, front.4, read) refl
