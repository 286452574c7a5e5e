-- Casts and tests of types: what the rows come to, where the machine stands.
use Rattle.std.proofs.Common.{◌≡◌, ℕ, ◌+◌, ◌<◌, ◌≤◌, List, ◌∷◌, Option, Some, None, Bool, true, false, refl, sym, ap, ◌∙◌, subst, length, drop, inl, inr, arith}
use Rattle.std.specs.Prelude.{slice_get, slice_index_or, pos, codes, Ok, Err}
use Rattle.jm_program.specs.declared.class.ClassParts.{ClassParts}
use Rattle.jm_program.specs.declared.instruction.operation.TypeOp.{TypeOp}
use Rattle.jm_program.specs.declared.instruction.operation.TypeOp.TheVariants.{CheckCast, InstanceOf}
use Rattle.jm_program.specs.declared.instruction.symbolic.Instr.TheVariants as instr
use Rattle.jm_program.specs.declared.reference.ClassRef.{ClassRef}
use Rattle.jm_builtins.specs.List.{the_builtins}
use Rattle.jm_builtins.specs.declared.built_in_class.BuiltInClass.TheVariants.{ClassCastException}
use Rattle.jm_builtins.specs.Numbers as built_in
use Rattle.jm_values.specs.Activation.{category, units}
use Rattle.jm_values.specs.Content.{Content, name_of, serial_at}
use Rattle.jm_values.specs.Reach.{Reach}
use Rattle.jm_values.specs.Rename.{rename}
use Rattle.jm_values.specs.declared.fault.TagFault.TheVariants.{Overflow}
use Rattle.jm_values.specs.declared.value.Value.{Value}
use Rattle.jm_values.specs.declared.value.Value.TheVariants.{Int, Null, Ref}
use Rattle.jm_world.specs.Here.{Here, go_on, push, throws, with_reference}
use Rattle.jm_world.specs.Hierarchy.{is_assignable}
use Rattle.jm_world.specs.Matches.{Matches}
use Rattle.jm_world.specs.Next.{Next, faults}
use Rattle.jm_world.specs.Objects.{Object}
use Rattle.jm_world.specs.Stepping.{row, step_thread}
use Rattle.jm_world.specs.TypeChecks.{check_cast, instance_test, is_instance}
use Rattle.jm_world.specs.Types.{type_of_object, type_of_ref}
use Rattle.jm_world.specs.World.{World, roots}
use Rattle.jm_heap.specs.declared.class_id.ClassId.{ClassId}
use Rattle.jm_heap.specs.declared.class_id.ClassId.TheVariants.{Instance, Array}
use Rattle.jm_heap.specs.declared.class_id.Component.{Component}
use Rattle.jm_heap.specs.declared.class_id.Element.{Element}
use Rattle.jm_heap.specs.declared.class_id.Element.TheVariants as heap_element
use Rattle.jm_linked.specs.Links.{Links, NamesElement, NamesType, class_name_of}
use Rattle.jm_linked.specs.declared.instruction.LinkedElement.{LinkedElement}
use Rattle.jm_linked.specs.declared.instruction.LinkedElement.TheVariants as linked_element
use Rattle.jm_linked.specs.declared.instruction.LinkedInstr.TheVariants as linked
use Rattle.jm_linked.specs.declared.instruction.LinkedType.{LinkedType}
use Rattle.jm_state.specs.Parts.{element_named, named_type, parts}
use Rattle.jm_state.specs.declared.state.State.{State}
use Rattle.jm_state.specs.declared.thread.Thread as held
use Rattle.jm_interp.specs.declared.at.At.{At}
use Rattle.jm_interp.specs.declared.top_object.Refusal.{Refusal}
use Rattle.jm_interp.specs.declared.top_object.Refusal.TheVariants.{Throws}
use Rattle.jm_interp.specs.At.{parts_at, StandsOn}
use Rattle.jm_interp.specs.Standing.{InAnyMethod}
use Rattle.jm_interp.specs.TopObject.{reference_of, Reaches, HasRoom, IsRefused, ComesTo}
use Rattle.jm_interp.proofs.Here.{place, row_is}
use Rattle.jm_interp.proofs.Objects.{IsObject}
use Rattle.jm_interp.proofs.OnThread.{Leads, read}
use Rattle.jm_interp.proofs.OnTop.{by, with_found, reference_is, is_object, reference_off, operands, found_reference, reference_there, its_object}
use Rattle.jm_interp.proofs.OnTop.{step_is, is_refused, goes_by, with_its}
use Rattle.jm_interp.proofs.Replaced.{room_there}
use Rattle.jm_interp.proofs.Unwound.{names_class}

-- the element of an object's type, by the number of its class
pub class_element : (program : List ClassParts) {e : Element} {n : ℕ} → e ≡ heap_element.Class n → n < length the_builtins + length program
    → NamesElement program (linked_element.Class n) (element_named program e)
class_element program {e} {n} is within =
    subst (λ x. NamesElement program (linked_element.Class n) (element_named program x)) (sym is) (class_name_of program n, refl, names_class program n within)

-- the type that holds an instance, and an array
pub holds_instance : (program : List ClassParts) {id : ClassId} {n : ℕ} {e : LinkedElement} → id ≡ Instance n
    → NamesElement program e (element_named program (heap_element.Class n))
    → NamesType program (record { dimensions = 0; element = e }) (type_of_object (named_type program id))
unfolding named_type
holds_instance program {id} {n} {e} is named =
    subst (λ x. NamesType program (record { dimensions = 0; element = e }) (type_of_object (named_type program x))) (sym is)
    (record { dimensions = refl; element = named })

pub holds_array : (program : List ClassParts) {id : ClassId} {component : Component} {e : LinkedElement} {n : ℕ} → id ≡ Array component
    → n ≡ component.dimensions + 1 → NamesElement program e (element_named program component.element)
    → NamesType program (record { dimensions = n; element = e }) (type_of_object (named_type program id))
unfolding named_type
holds_array program {id} {component} {e} {n} is many named =
    subst (λ x. NamesType program (record { dimensions = n; element = e }) (type_of_object (named_type program x))) (sym is)
    (record { dimensions = sym many; element = named })

-- a reference's place is free for a value of one unit
module _ {H : Type 0} {content : H → Content ClassId} {at : At} {old : State H} {d : held.Thread} (got : d ≡ slice_index_or old.threads.items at.index d)
    (fits : InAnyMethod d (λ f below r. units f.activation.stack ≤ f.activation.max_stack)) where
  pub room_of_reference : {r : Option ℕ} → InAnyMethod d (λ f below q. Ok r ≡ reference_of (slice_get f.activation.stack 0)) → (v : Value)
      → category v ≡ 1 → HasRoom content at old 1 v
  room_of_reference is v one h =
      let fit = fits h.frame h.below _ (read h.on got) in
      let off = reference_off 0 h.frame.activation.stack (found_reference h 0 got is) in
      omega arith

-- a row of the reference on top
module _ {H : Type 0} {content : H → Content ClassId} {at : At} {old : State H} {op : TypeOp} {to : LinkedType}
    (h : StandsOn content at old (Links at.linked.now (linked.Type op to))) where
  abbrev here : World → Here
  here = place h.method

  abbrev f : ℕ → ℕ
  f = name_of (content old.heap)

  abbrev stack : List Value
  stack = h.method.frame.activation.stack

  abbrev left : List Value
  left = drop 1 (operands h.method)

  -- where the model has room, a push goes on
  goes_on : (v : Value) → HasRoom content at old 1 v → (w : World) → go_on (here w) (rename f v ∷ left) ≡ push (here w) (rename f v) left
  goes_on v room w =
      let s = rename f v ∷ left in
      sym (ap (λ b. elim b as (λ _. Next) [ true ↦ go_on (here w) s | false ↦ faults Overflow ]) (room_there h.method 1 v room w))

  module _ (go : Here → ClassRef → Option ℕ → List Value → Next)
      (rule : (x : Here) (t : ClassRef) → row x (instr.Type op t) ≡ with_reference x.frame.stack (go x t)) where
    abbrev class : ClassRef
    class = h.is.0

    reference_row : Leads h.method.on step_thread (λ w. by (here w) (reference_of (slice_get (operands h.method) 0)) (λ r. go (here w) class r left))
    reference_row w m =
        row_is h w m
        ∙ ap (row (here w)) h.is.1
        ∙ rule (here w) class
        ∙ reference_is (here w) (operands h.method) (go (here w) class)

    refused_there : {r : Refusal} → reference_of (slice_get stack 0) ≡ Err r → IsRefused content at old r
    refused_there {r} e =
        is_refused h.method r (goes_by h.method (λ w r. go (here w) class r left) reference_row (reference_there h.method 0 e))

    of_null : reference_of (slice_get stack 0) ≡ Ok None → Leads h.method.on step_thread (λ w. go (here w) class None left)
    of_null e = goes_by h.method (λ w r. go (here w) class r left) reference_row (reference_there h.method 0 e)

    of_some : {p : ℕ} → reference_of (slice_get stack 0) ≡ Ok (Some p) → Leads h.method.on step_thread (λ w. go (here w) class (Some (f p)) left)
    of_some e = goes_by h.method (λ w r. go (here w) class r left) reference_row (reference_there h.method 0 e)

  -- what is told of the object's type
  module _ {p : ℕ} (e : reference_of (slice_get stack 0) ≡ Ok (Some p)) where
    abbrev pub its : IsObject h.method.on p
    its = its_object h.method 0 (is_object (slice_get stack 0) p e)

    pub its_reference : Reaches content at old (Ref p)
    its_reference w m q (inl same) =
        subst (λ x. ((k : ℕ) × (serial_at (content old.heap) x ≡ Some k)) × Reach (slice_get w.heap) (roots w) (f x)) (sym same)
        ((its.serial, its.serial_is), its.reached w m)
    its_reference w m q (inr z) = absurd z

    module _ {id : ClassId} (told : id ≡ its.object.type) {test : Bool}
        (is : test ≡ is_assignable at.linked.now.program (type_of_object (named_type at.linked.now.program id)) (type_of_ref h.is.0)) where
      abbrev object : Object
      object = record { type = named_type at.linked.now.program id; values = its.object.values }

      tested : (w : World) → Matches (parts_at content at old) w → is_instance (here w) object h.is.0 ≡ test
      unfolding parts
      tested w m =
          ap (λ program. is_assignable program (type_of_object (named_type at.linked.now.program id)) (type_of_ref h.is.0)) (sym m.program) ∙ sym is

      -- a rule that goes by the test
      by_test : (then_so else_so : World → Next)
          → Leads h.method.on step_thread
          (λ w. with_found (here w) (f p) (λ o. elim (is_instance (here w) o h.is.0) as (λ _. Next) [ true ↦ then_so w | false ↦ else_so w ]))
          → Leads h.method.on step_thread (λ w. elim test as (λ _. Next) [ true ↦ then_so w | false ↦ else_so w ])
      by_test then_so else_so is_so w m =
          with_its h.method its (λ w o. elim (is_instance (here w) o h.is.0) as (λ _. Next) [ true ↦ then_so w | false ↦ else_so w ]) is_so told w m
          ∙ ap (λ b. elim b as (λ _. Next) [ true ↦ then_so w | false ↦ else_so w ]) (tested w m)

-- checkcast
module _ {H : Type 0} {content : H → Content ClassId} {at : At} {old : State H} {to : LinkedType}
    (h : StandsOn content at old (Links at.linked.now (linked.Type CheckCast to))) where
  pub cast_refused : {r : Refusal} → reference_of (slice_get h.method.frame.activation.stack 0) ≡ Err r → IsRefused content at old r
  cast_refused e = refused_there h check_cast (λ x t. refl) e

  pub cast_null : reference_of (slice_get h.method.frame.activation.stack 0) ≡ Ok None → HasRoom content at old 1 Null → ComesTo content at old 1 (Ok Null)
  cast_null e room = (
    step_is h.method (λ x. push x Null (drop 1 x.frame.stack)) (λ w m. of_null h check_cast (λ x t. refl) e w m ∙ goes_on h Null room w),
    λ w m q a. absurd a,
    room,
  )

  module _ {p : ℕ} (e : reference_of (slice_get h.method.frame.activation.stack 0) ≡ Ok (Some p)) {id : ClassId} (told : id ≡ (its h e).object.type)
      {test : Bool} (is : test ≡ is_assignable at.linked.now.program (type_of_object (named_type at.linked.now.program id)) (type_of_ref h.is.0)) where
    abbrev passes : World → Next
    passes w = go_on (place h.method w) (Ref (name_of (content old.heap) p) ∷ left h)

    abbrev fails : World → Next
    fails w = throws (place h.method w) (codes "java/lang/ClassCastException")

    cast_by_test : Leads h.method.on step_thread (λ w. elim test as (λ _. Next) [ true ↦ passes w | false ↦ fails w ])
    cast_by_test = by_test h e told is passes fails (of_some h check_cast (λ x t. refl) e)

    pub cast_passes : test ≡ true → HasRoom content at old 1 (Ref p) → ComesTo content at old 1 (Ok (Ref p))
    cast_passes it_is room = (
      step_is h.method (λ x. push x (Ref (name_of (content old.heap) p)) (drop 1 x.frame.stack)) (λ w m.
          cast_by_test w m ∙ ap (λ b. elim b as (λ _. Next) [ true ↦ passes w | false ↦ fails w ]) it_is ∙ goes_on h (Ref p) room w),
      its_reference h e,
      room,
    )

    pub cast_throws : test ≡ false → IsRefused content at old (Throws ClassCastException)
    cast_throws it_is =
        step_is h.method (λ x. throws x (built_in.name_of ClassCastException))
        (λ w m. cast_by_test w m ∙ ap (λ b. elim b as (λ _. Next) [ true ↦ passes w | false ↦ fails w ]) it_is)

-- instanceof
module _ {H : Type 0} {content : H → Content ClassId} {at : At} {old : State H} {to : LinkedType}
    (h : StandsOn content at old (Links at.linked.now (linked.Type InstanceOf to))) where
  pub test_refused : {r : Refusal} → reference_of (slice_get h.method.frame.activation.stack 0) ≡ Err r → IsRefused content at old r
  test_refused e = refused_there h instance_test (λ x t. refl) e

  pub test_null : reference_of (slice_get h.method.frame.activation.stack 0) ≡ Ok None → HasRoom content at old 1 (Int (pos 0))
      → ComesTo content at old 1 (Ok (Int (pos 0)))
  test_null e room = (
    step_is h.method (λ x. push x (Int (pos 0)) (drop 1 x.frame.stack)) (of_null h instance_test (λ x t. refl) e),
    λ w m q a. absurd a,
    room,
  )

  module _ {p : ℕ} (e : reference_of (slice_get h.method.frame.activation.stack 0) ≡ Ok (Some p)) {id : ClassId} (told : id ≡ (its h e).object.type)
      {test : Bool} (is : test ≡ is_assignable at.linked.now.program (type_of_object (named_type at.linked.now.program id)) (type_of_ref h.is.0)) where
    abbrev one : World → Next
    one w = push (place h.method w) (Int (pos 1)) (left h)

    abbrev zero : World → Next
    zero w = push (place h.method w) (Int (pos 0)) (left h)

    test_by_test : Leads h.method.on step_thread (λ w. elim test as (λ _. Next) [ true ↦ one w | false ↦ zero w ])
    test_by_test = by_test h e told is one zero (of_some h instance_test (λ x t. refl) e)

    pub test_holds : test ≡ true → HasRoom content at old 1 (Int (pos 1)) → ComesTo content at old 1 (Ok (Int (pos 1)))
    test_holds it_is room = (
      step_is h.method (λ x. push x (Int (pos 1)) (drop 1 x.frame.stack))
          (λ w m. test_by_test w m ∙ ap (λ b. elim b as (λ _. Next) [ true ↦ one w | false ↦ zero w ]) it_is),
      λ w m q a. absurd a,
      room,
    )

    pub test_fails : test ≡ false → HasRoom content at old 1 (Int (pos 0)) → ComesTo content at old 1 (Ok (Int (pos 0)))
    test_fails it_is room = (
      step_is h.method (λ x. push x (Int (pos 0)) (drop 1 x.frame.stack))
          (λ w m. test_by_test w m ∙ ap (λ b. elim b as (λ _. Next) [ true ↦ one w | false ↦ zero w ]) it_is),
      λ w m q a. absurd a,
      room,
    )
