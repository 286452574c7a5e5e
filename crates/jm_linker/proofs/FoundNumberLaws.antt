-- What is found, by numbers.
use Rattle.std.proofs.Common.{◌≡◌, ℕ, zero, suc, List, [], Option, Some, None, refl, sym, ap, subst, ◌∙◌}
use Rattle.jm_program.specs.declared.class.ClassParts.{ClassParts}
use Rattle.jm_program.specs.declared.class.Field.{Field}
use Rattle.jm_program.specs.declared.descriptor.FieldType.{FieldType}
use Rattle.jm_program.specs.declared.descriptor.MethodDescriptor.{MethodDescriptor}
use Rattle.jm_world.specs.Classes.{FoundField, FoundMethod, class_named, field_in, height}
use Rattle.jm_world.specs.Resolution.{field_from, first_found, interfaces_first, nameable, resolve_field, resolve_method}
use Rattle.jm_world.proofs.CalledMethods.{first_got, resolved_got}
use Rattle.jm_linked.specs.Links.{NamesClass, class_name_of}
use Rattle.jm_linked.proofs.Classes.{class_name_is}
use Rattle.jm_linker.specs.FoundNumbers.{FindsField, FindsMethod}
use Rattle.jm_linker.specs.NumberedClasses.{HasClass}
use Rattle.jm_linker.specs.declared.references.FoundMember.{FoundMember}

pub names_itself : (program : List ClassParts) (n : ℕ) (name : List ℕ) → NamesClass program n name → NamesClass program n (class_name_of program n)
names_itself program n name e = e ∙ ap Some (sym (class_name_is program n name e))

-- a member that is found is of a class that the program has
field_got : (n : ℕ) (program : List ClassParts) (name : List ℕ) (t : FieldType) (class : List ℕ) (found : FoundField)
    → field_from n program name t class ≡ Some found → HasClass program found.class
field_got zero program name t class found e = cc
field_got (suc n) program name t class found e = by (field_got n program name t) (class_named program class) refl e
  where
    inner : ((x : List ℕ) (y : FoundField) → field_from n program name t x ≡ Some y → HasClass program y.class) → (c : ClassParts)
        → class_named program class ≡ Some c → (o : Option Field)
        → (elim o as (λ _. Option FoundField) [
          | Some f ↦ Some (record { class = c; field = f })
          | None ↦ first_found
              (λ above. field_from n program name t above) (interfaces_first c)
        ]) ≡ Some found
        → HasClass program found.class
    inner ih c q (Some f) h =
        let of : c ≡ found.class = ap (λ (o : Option FoundField). elim o as (λ _. ClassParts) [ None ↦ c | Some x ↦ x.class ]) h in
        (class, q ∙ ap Some of)
    inner ih c q None h =
        let above : (x : List ℕ) × (field_from n program name t x ≡ Some found) = first_got (λ above. field_from n program name t above)
        (interfaces_first c) found h in
        ih above.0 found above.1

    by : ((x : List ℕ) (y : FoundField) → field_from n program name t x ≡ Some y → HasClass program y.class) → (o : Option ClassParts)
        → class_named program class ≡ o
        → (elim o as (λ _. Option FoundField) [
          | None ↦ None
          | Some c ↦ elim (field_in (nameable c) name t) [
            | Some f ↦ Some
                (record { class = c; field = f })
            | None ↦ first_found (λ above. field_from n program name t above) (interfaces_first c)
          ]
        ]) ≡ Some found
        → HasClass program found.class
    by ih None q h = cc
    by ih (Some c) q h = inner ih c q (field_in (nameable c) name t) h

resolved_class : (program : List ClassParts) (x name : List ℕ) (t : FieldType) (found : FoundField) → resolve_field program x name t ≡ Some found
    → HasClass program found.class
unfolding resolve_field
resolved_class program x name t found e = field_got (height program) program name t x found e

pub field_class : (program : List ClassParts) (x name : List ℕ) (t : FieldType) (o : Option FoundField) (member : FoundMember)
    → resolve_field program x name t ≡ o → FindsField o member
    → HasClass program member.class.now
field_class program x name t o member e f = subst (HasClass program) f.class (resolved_class program x name t f.found (e ∙ f.is))

pub method_class : (program : List ClassParts) (x name : List ℕ) (t : MethodDescriptor) (o : Option FoundMethod) (member : FoundMember)
    → resolve_method program x name t ≡ o → FindsMethod o member
    → HasClass program member.class.now
method_class program x name t o member e f = subst (HasClass program) f.class (resolved_got program x name t f.found (e ∙ f.is)).0
