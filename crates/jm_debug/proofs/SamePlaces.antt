-- The types of methods, compared.
use Rattle.std.proofs.Common.{rules, ◌≡◌, List, [], ◌∷◌, Bool, true, false, ◌&&◌, Option, Some, None, ap, refl, sym, ◌∙◌, subst}
use lib.Pointwise.{pointwise}
use Rattle.jm_program.specs.declared.descriptor.MethodDescriptor.{MethodDescriptor}
use Rattle.jm_program.specs.declared.descriptor.FieldType.{FieldType}
use Rattle.jm_program.specs.contracts.descriptor.FieldTypePartialEq.TheImpl as field_type
use Rattle.jm_program.specs.contracts.descriptor.FieldTypeEq.TheImpl.Laws.{laws-law}
use Rattle.jm_program.specs.contracts.descriptor.MethodDescriptorPartialEq.TheImpl as method_type
use Rattle.jm_world.specs.Types.{same_type, same_types, same_result, same_method_type}
use Rattle.jm_world.proofs.FoundAgain.{type_is}
use Rattle.jm_world.proofs.Comparing.{type_itself}

-- two tests that each follow from the other are one
both_ways : (a b : Bool) → (a ≡ true → b ≡ true) → (b ≡ true → a ≡ true) → a ≡ b
both_ways true b there back = sym (there refl)
both_ways false true there back = back refl
both_ways false false there back = refl

equal_is : (a b : FieldType) → field_type.ghosts.eq a b ≡ true → a ≡ b
equal_is a b equal = search rules

same_field : (a b : FieldType) → field_type.ghosts.eq a b ≡ same_type a b
same_field a b = both_ways (field_type.ghosts.eq a b) (same_type a b)
    (λ equal. subst (λ (t : FieldType). same_type a t ≡ true) (equal_is a b equal) (type_itself a))
    (λ same. subst (λ (t : FieldType). field_type.ghosts.eq a t ≡ true) (type_is a b same) (laws-law.refl a))

same_fields : (as' bs : List FieldType) → pointwise field_type.ghosts.eq as' bs ≡ same_types as' bs
same_fields [] [] = refl
same_fields [] (b ∷ bs) = refl
same_fields (a ∷ as') [] = refl
same_fields (a ∷ as') (b ∷ bs) = ap (λ t. t && pointwise field_type.ghosts.eq as' bs) (same_field a b) ∙ ap (λ t. same_type a b && t) (same_fields as' bs)

by_parts : (ps qs : List FieldType) (a b : Option FieldType) → method_type.ghosts.eq (record { parameters = ps; return_type = a }) (record { parameters = qs; return_type = b })
    ≡ (same_types ps qs && same_result a b)
by_parts ps qs None None = ap (λ t. t && true) (same_fields ps qs)
by_parts ps qs None (Some b) = ap (λ t. t && false) (same_fields ps qs)
by_parts ps qs (Some a) None = ap (λ t. t && false) (same_fields ps qs)
by_parts ps qs (Some a) (Some b) = ap (λ t. t && field_type.ghosts.eq a b) (same_fields ps qs) ∙ ap (λ t. same_types ps qs && t) (same_field a b)

pub same_descriptor : (a b : MethodDescriptor) → method_type.ghosts.eq a b ≡ same_method_type a b
same_descriptor a b = by_parts a.parameters b.parameters a.return_type b.return_type
