-- athrow, and whether an object is of a class, by its mark.
use Rattle.std.proofs.Common.{◌≡◌, ℕ, List, ◌∷◌, Some, None, Bool, true, false, refl, sym, ap, ◌∙◌, subst, inl, inr}
use Rattle.std.specs.Prelude.{map, slice_get, slice_index_or, Ok, Err}
use Rattle.jm_program.specs.declared.class.ClassParts.{ClassParts}
use Rattle.jm_values.specs.Content.{Content, name_of}
use Rattle.jm_values.specs.Shape.{Among}
use Rattle.jm_values.specs.declared.fault.TagFault.TheVariants.{WrongKind}
use Rattle.jm_values.specs.declared.value.Value.{Value}
use Rattle.jm_values.specs.declared.value.Value.TheVariants.{Ref}
use Rattle.jm_world.specs.Classes.{throwable_class}
use Rattle.jm_world.specs.Here.{Here}
use Rattle.jm_world.specs.Hierarchy.{is_subclass}
use Rattle.jm_world.specs.Matches.{Matches, places}
use Rattle.jm_world.specs.Next.{Next, faults}
use Rattle.jm_world.specs.Objects.{Object}
use Rattle.jm_world.specs.Stepping.{row, step_thread}
use Rattle.jm_world.specs.Throwing.{is_kind_of}
use Rattle.jm_world.specs.Types.{ObjectType, instance_of, array_of}
use Rattle.jm_world.specs.World.{World, held_shape}
use Rattle.jm_heap.specs.declared.class_id.ClassId.{ClassId}
use Rattle.jm_heap.specs.declared.class_id.ClassId.TheVariants.{Instance, Array}
use Rattle.jm_heap.specs.declared.class_id.Component.{Component}
use Rattle.jm_linked.specs.Links.{Links, NamesClass, class_name_of}
use Rattle.jm_linked.specs.declared.instruction.LinkedInstr.TheVariants as linked
use Rattle.jm_state.specs.Parts.{frame_part, named_type, parts}
use Rattle.jm_state.specs.declared.halt.StepEnd.TheVariants.{Done}
use Rattle.jm_state.specs.declared.state.State.{State}
use Rattle.jm_state.specs.declared.thread.StackFrame.TheVariants.{Method}
use Rattle.jm_state.specs.declared.thread.Thread as held
use Rattle.jm_interp.specs.declared.at.At.{At}
use Rattle.jm_interp.specs.declared.top_object.Refusal.{Refusal}
use Rattle.jm_interp.specs.declared.top_object.Refusal.TheVariants.{Faults}
use Rattle.jm_interp.specs.At.{parts_at, Holds, HoldsAll, InMethod, OnFrames, StandsOn, Steps}
use Rattle.jm_interp.specs.Athrow.{becomes_pending, ComesToThrow}
use Rattle.jm_interp.specs.Catching.{IsKnown, is_of}
use Rattle.jm_interp.specs.TopObject.{object_of, IsRefused}
use Rattle.jm_interp.proofs.Here.{place}
use Rattle.jm_interp.proofs.Here as row_here
use Rattle.jm_interp.proofs.Objects.{IsObject}
use Rattle.jm_interp.proofs.OnThread as thread
use Rattle.jm_interp.proofs.OnThread.{Leads, model, thread_there, held_frames, part_here, with_thread_at}
use Rattle.jm_interp.proofs.OnTop.{by, with_found, object_is, operands, object_refused, object_known, its_place, its_object}
use Rattle.jm_interp.proofs.OnTop.{step_is, is_refused, goes_by, with_its}
use Rattle.jm_interp.proofs.Threads.{part_refs, with_pending}
use Rattle.jm_interp.proofs.Thrown.{pending_at, stands_pending}
use Rattle.jm_interp.proofs.Unwound.{names_class}

-- the class of an instance whose class is known, and whether it is the other or below it
pub names_known : (program : List ClassParts) {id : ClassId} {n : ℕ} → id ≡ Instance n → IsKnown program id → NamesClass program n (class_name_of program n)
names_known program {n = n} is known = names_class program n (subst (IsKnown program) is known)

pub instance_of_class : (program : List ClassParts) {id : ClassId} {n : ℕ} → id ≡ Instance n → (above : List ℕ)
    → is_subclass program (class_name_of program n) above ≡ is_of program (named_type program id) above
unfolding named_type
instance_of_class program is above = ap (λ x. is_of program (named_type program x) above) (sym is)

-- an array is of none
pub array_of_class : (program : List ClassParts) {id : ClassId} {component : Component} → id ≡ Array component → (above : List ℕ)
    → false ≡ is_of program (named_type program id) above
unfolding named_type
array_of_class program is above = ap (λ x. is_of program (named_type program x) above) (sym is)

-- the row of the object on top
module _ {H : Type 0} {content : H → Content ClassId} {at : At} {old : State H} (h : StandsOn content at old (Links at.linked.now linked.Throw)) where
  abbrev here : World → Here
  here = place h.method

  abbrev f : ℕ → ℕ
  f = name_of (content old.heap)

  abbrev stack : List Value
  stack = h.method.frame.activation.stack

  -- by whether the object is a Throwable
  abbrev by_kind : World → ℕ → Bool → Next
  by_kind w k b = elim b as (λ _. Next) [ true ↦ becomes_pending k (here w) | false ↦ faults WrongKind ]

  abbrev its_row : World → ℕ → Object → Next
  its_row w k o = by_kind w k (is_kind_of w o.type throwable_class)

  throw_row : Leads h.method.on step_thread (λ w. by (here w) (object_of (slice_get (operands h.method) 0)) (λ k. with_found (here w) k (its_row w k)))
  throw_row w m =
      row_here.row_is h w m
      ∙ ap (row (here w)) h.is
      ∙ object_is (here w) (operands h.method) (λ k o s. its_row w k o)

  -- there is none on top
  pub no_object : {r : Refusal} → object_of (slice_get stack 0) ≡ Err r → IsRefused content at old r
  no_object {r} e =
      is_refused h.method r (goes_by h.method (λ w k. with_found (here w) k (its_row w k)) throw_row (object_refused h.method 0 e))

  -- there is one
  module _ {p : ℕ} (e : object_of (slice_get stack 0) ≡ Ok p) where
    abbrev pub its : IsObject h.method.on p
    its = its_object h.method 0 e

    its_holds : Holds content at old (Ref p)
    its_holds q (inl same) = subst (λ x. Among x (places (parts_at content at old))) (sym same) (its_place h.method 0 e)
    its_holds q (inr z) = absurd z

    module _ {id : ClassId} (told : id ≡ its.object.type) {test : Bool}
        (is : test ≡ is_of at.linked.now.program (named_type at.linked.now.program id) throwable_class) where
      kind_in : (w : World) → Matches (parts_at content at old) w → (type : ObjectType)
          → is_kind_of w type throwable_class ≡ is_of at.linked.now.program type throwable_class
      unfolding parts
      kind_in w m (instance_of class) = ap (λ program. is_subclass program class throwable_class) (sym m.program)
      kind_in w m (array_of component) = refl

      by_test : Leads h.method.on step_thread (λ w. by_kind w (f p) test)
      by_test w m =
          with_its h.method its (λ x o. its_row x (f p) o)
          (goes_by h.method (λ x k. with_found (here x) k (its_row x k)) throw_row (object_known h.method 0 e)) told w m
          ∙ ap (by_kind w (f p)) (kind_in w m (named_type at.linked.now.program id) ∙ sym is)

      pub throws_it : test ≡ true → ComesToThrow content at old (Ok p)
      throws_it it_is = (step_is h.method (becomes_pending (f p)) (λ w m. by_test w m ∙ ap (by_kind w (f p)) it_is), its_holds)

      pub no_throwable : test ≡ false → IsRefused content at old (Faults WrongKind)
      no_throwable it_is = step_is h.method (λ x. faults WrongKind) (λ w m. by_test w m ∙ ap (by_kind w (f p)) it_is)

-- an object that the machine holds is left pending
module _ {H : Type 0} {content : H → Content ClassId} {at : At} {old : State H} (h : InMethod content at old) {p : ℕ}
    (throws : ComesToThrow content at old (Ok p)) {d : held.Thread} (got : d ≡ slice_index_or old.threads.items at.index d) where
  abbrev framed : OnFrames content at old
  framed = record { frames = Method h.frame ∷ h.below; pending = None; on = h.on }

  pending_held : HoldsAll content at old (held_shape.refs (Some p, map (frame_part at.linked.now) (Method h.frame ∷ h.below)))
  pending_held q a = elim (part_refs at.linked.now (Method h.frame ∷ h.below) (Some p) q a) [
    | inl b ↦ throws.1 q b
    | inr b ↦ held_frames h.on q b
  ]

  pub leaves_it : Steps content at old (Ok Done) (with_thread_at old at.index (pending_at framed p got))
  unfolding parts
  leaves_it =
      thread.goes h.on (stands_pending framed p got) (with_pending (part_here h.on)) pending_held
      (λ w m. throws.0 w (model h.on) m (thread_there h.on w m))
