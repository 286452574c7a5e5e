-- A class is below itself, so an object can be held by a variable of its own class (JVMS 6.5 instanceof).
use Rattle.std.proofs.Common.{◌≡◌, ℕ, ◌+◌, List, Bool, true, false, sym, ap, ◌∙◌, subst, [], length}
use Rattle.std.specs.Prelude.{unwrap_or}
use Rattle.jm_program.specs.declared.class.ClassParts.{ClassParts}
use Rattle.jm_program.specs.declared.descriptor.ElementType.TheVariants as type
use Rattle.jm_program.specs.declared.descriptor.FieldType.{FieldType}
use Rattle.jm_program.proofs.Texts.{text_itself}
use Rattle.jm_world.specs.Classes.{class_named}
use Rattle.jm_world.specs.Hierarchy.{dimensions_assignable, holds_of_any, is_assignable, is_below, is_subclass, parents}
use Rattle.jm_world.specs.Types.{type_of_object}
use Rattle.jm_heap.specs.declared.class_id.ClassId.{ClassId}
use Rattle.jm_linked.specs.Links.{NamesElement, NamesType, class_name_of}
use Rattle.jm_linked.specs.declared.instruction.LinkedType.{LinkedType}
use Rattle.jm_linked.proofs.SystemOut.{taller}
use Rattle.jm_state.specs.Parts.{named_type}
use Rattle.jm_interp.specs.TypeChecks.{IsExactly}

pub below_itself : (program : List ClassParts) (name : List ℕ) → is_subclass program name name ≡ true
unfolding is_subclass
below_itself program name =
    let n = length program + 28 in
    ap (λ k. is_below k program name name) (taller program)
    ∙ ap (λ b. elim b as (λ _. Bool) [
      | true ↦ true
      | false ↦ holds_of_any (λ parent. is_below n program parent name) (parents (class_named program name))
    ]) (text_itself name)

-- the type of the mark is the type itself
pub held_by_itself : (program : List ClassParts) {id : ClassId} {to : LinkedType} → IsExactly id to → (t : FieldType) → NamesType program to t
    → true ≡ is_assignable program (type_of_object (named_type program id)) t
unfolding named_type class_name_of
held_by_itself program {id} {to} is t named =
    let (name, element, there) = subst (λ e. NamesElement program e t.element) is.element named.element in
    let own : class_name_of program is.class ≡ name = ap (λ o. unwrap_or o []) there in
    sym (
    ap (λ x. is_assignable program (type_of_object (named_type program x)) t) is.mark
    ∙ ap (λ k. dimensions_assignable program (type.Class (class_name_of program is.class)) t.element 0 k) (named.dimensions ∙ is.dimensions)
    ∙ ap (λ e. dimensions_assignable program (type.Class (class_name_of program is.class)) e 0 0) element
    ∙ ap (λ x. is_subclass program x name) own
    ∙ below_itself program name)
