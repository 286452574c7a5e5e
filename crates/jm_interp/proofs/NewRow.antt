-- A new instance of a class that can be used.
use Rattle.std.proofs.Common.{◌≡◌, ℕ, ◌+◌, List, [], ◌∷◌, Some, Bool, true, false, refl, sym, ap, ◌∙◌, drop, arith}
use Rattle.std.proofs.lemmas.Bool.Decides.{nat_tests}
use Rattle.std.specs.Borrow.{Bor}
use Rattle.std.specs.Prelude.{map, nat_le, slice_index_or, unwrap_or, Result}
use Rattle.jm_program.specs.declared.instruction.operation.OperandType.{OperandType}
use Rattle.jm_frames.specs.FrameView.{FrameView}
use Rattle.jm_values.specs.Activation.{units}
use Rattle.jm_values.specs.Content.{Content, name_of}
use Rattle.jm_values.specs.Objects.{default_of}
use Rattle.jm_values.specs.Rename.{rename}
use Rattle.jm_values.specs.declared.fault.TagFault.TheVariants.{Overflow}
use Rattle.jm_values.specs.declared.value.Value.TheVariants.{Null, Ref}
use Rattle.jm_values.proofs.NaturalSteps.{units_renamed}
use Rattle.jm_program.specs.declared.class.ClassParts.{ClassParts}
use Rattle.jm_world.specs.Frames.{initialization_frame}
use Rattle.jm_world.specs.Here.{Here, all_frames, go_on_in, push_frame, push_new}
use Rattle.jm_world.specs.Matches.{as_named}
use Rattle.jm_world.specs.Next.{Next, faults, make}
use Rattle.jm_world.specs.Objects.{FieldName, Object, instance_fields, new_instance}
use Rattle.jm_world.specs.Stepping.{row, step_thread}
use Rattle.jm_world.specs.Types.{default_value, instance_of, operand_of}
use Rattle.jm_world.specs.World.{World}
use Rattle.jm_world.specs.declared.stage.Stage.TheVariants.{Begin}
use Rattle.jm_heap.specs.NewObject.{new_object}
use Rattle.jm_heap.specs.declared.class_id.ClassId.{ClassId}
use Rattle.jm_heap.specs.declared.shape.Shape.TheVariants as shape
use Rattle.jm_tables.specs.FieldKinds.{kinds_at}
use Rattle.jm_linked.specs.Links.{IsLinked, LinkedView, Links, NamesClass, class_name_of}
use Rattle.jm_linked.specs.declared.instruction.LinkedInstr.TheVariants as linked
use Rattle.jm_linked.proofs.HeldTypes.{named_at}
use Rattle.jm_state.specs.Parts.{named_type, parts}
use Rattle.jm_state.specs.declared.state.State.{State}
use Rattle.jm_state.specs.declared.thread.Thread as held
use Rattle.jm_interp.specs.declared.at.At.{At}
use Rattle.jm_interp.specs.declared.top_object.Refusal.TheVariants.{Faults}
use Rattle.jm_state.specs.declared.halt.Halt.{Halt}
use Rattle.jm_state.specs.declared.halt.StepEnd.{StepEnd}
use Rattle.jm_interp.specs.At.{StandsOn, Does, Steps, in_method}
use Rattle.jm_interp.specs.Creating.{IsUsable}
use Rattle.jm_interp.specs.Readiness.{Readiness, begins}
use Rattle.jm_interp.specs.Standing.{InAnyMethod}
use Rattle.jm_interp.specs.TopObject.{HasRoom, IsRefused, StepIs}
use Rattle.jm_interp.proofs.Here.{place, row_is}
use Rattle.jm_interp.proofs.OnThread.{Leads, read}
use Rattle.jm_interp.proofs.OnTop.{is_refused, step_is}
use Rattle.jm_interp.proofs.ReadyClasses.{begins_first}

-- the kinds of the fields of a class's instances, in the model's order
abbrev pub model_kinds : List ClassParts → List ℕ → List OperandType
model_kinds program name = map (λ f. operand_of f.type) (instance_fields program name)

-- those that the table has
pub kinds_there : (l : LinkedView) → IsLinked l → (class : ℕ) (name : List ℕ) → NamesClass l.program class name
    → kinds_at l.tables.kinds class ≡ Some (model_kinds l.program name)
kinds_there l is class name named =
    let own = named_at l.program class name named in is.tables.kinds class own.1 ∙ ap (λ x. Some (model_kinds l.program x)) own.0

defaults_are : (fs : List FieldName) → map default_of (map (λ (f : FieldName). operand_of f.type) fs) ≡ map (λ (f : FieldName). default_value f.type) fs
defaults_are [] = refl
defaults_are (f ∷ fs) = ap (λ vs. default_value f.type ∷ vs) (defaults_are fs)

-- the object of the shape is the model's new instance
pub instance_is : (program : List ClassParts) (class : ℕ) (name : List ℕ) (kinds : Bor (List OperandType)) → NamesClass program class name
    → kinds.now ≡ model_kinds program name → as_named (named_type program) (new_object (shape.Instance class kinds)) ≡ new_instance program name
unfolding named_type new_object class_name_of
instance_is program class name kinds named is =
    ap (λ n. let it : Object = record { type = instance_of n; values = map default_of kinds.now } in it) (ap (λ o. unwrap_or o []) named)
    ∙ ap (λ ks. let it : Object = record { type = instance_of name; values = map default_of ks } in it) is
    ∙ ap (λ vs. let it : Object = record { type = instance_of name; values = vs } in it) (defaults_are (instance_fields program name))

-- the top frame has room for a reference
pub room_for : {H : Type 0} {content : H → Content ClassId} {at : At} {old : State H} {d : held.Thread} (top : FrameView)
    → d ≡ slice_index_or old.threads.items at.index d → InAnyMethod d (λ f below r. top ≡ f)
    → true ≡ nat_le (units top.activation.stack + 1) top.activation.max_stack → HasRoom content at old 0 Null
room_for top got is test h =
    let same : top ≡ h.frame = is h.frame h.below _ (read h.on got) in
    let fits : true ≡ nat_le (units h.frame.activation.stack + 1) h.frame.activation.max_stack =
    test ∙ ap (λ (f : FrameView). nat_le (units f.activation.stack + 1) f.activation.max_stack) same in
    grind (arith, nat_tests, fits)

module _ {H : Type 0} {content : H → Content ClassId} {at : At} {old : State H} (class : ℕ)
    (h : StandsOn content at old (Links at.linked.now (linked.New class))) (usable : IsUsable content at old class) where
  abbrev here : World → Here
  here = place h.method

  abbrev name : List ℕ
  name = h.is.0

  abbrev pushes : World → Next
  pushes w = push_new (here w) (new_instance w.program name) (here w).frame.stack

  instance_row : Leads h.method.on step_thread pushes
  instance_row w m =
      row_is h w m
      ∙ ap (row (here w)) h.is.1
      ∙ ap (λ b. elim b as (λ _. Next) [
        | true ↦ pushes w
        | false ↦ push_frame w (at.index + 1) (here w).thread (all_frames (here w)) (initialization_frame name Begin)
      ]) (usable name h.is.2 w m)

  pub kinds_known : kinds_at at.linked.now.tables.kinds class ≡ Some (model_kinds at.linked.now.program name)
  kinds_known = kinds_there at.linked.now h.method.on.beside.linked class name h.is.2

  pub makes_instance : (kinds : Bor (List OperandType)) → kinds.now ≡ model_kinds at.linked.now.program name
      → StepIs content at old
      (λ here. push_new here (as_named (named_type at.linked.now.program) (new_object (shape.Instance class kinds))) (drop 0 here.frame.stack))
  unfolding parts
  makes_instance kinds is =
      let o : Object = as_named (named_type at.linked.now.program) (new_object (shape.Instance class kinds)) in
      step_is h.method (λ here. push_new here o here.frame.stack) (λ w m.
      instance_row w m
      ∙ ap (λ p. push_new (here w) (new_instance p name) (here w).frame.stack) (sym m.program)
      ∙ ap (λ x. push_new (here w) x (here w).frame.stack) (sym (instance_is at.linked.now.program class name kinds h.is.2 is)))

  -- the top frame has none
  no_room : nat_le (units h.method.frame.activation.stack + 1) h.method.frame.activation.max_stack ≡ false → (w : World)
      → nat_le (units (Null ∷ (here w).frame.stack)) (here w).frame.max_stack ≡ false
  no_room full w =
      let f = name_of (content old.heap) in
      let s = h.method.frame.activation.stack in
      let same : units (Null ∷ map (rename f) s) ≡ units (Null ∷ s) = units_renamed f (Null ∷ s) in
      let test : nat_le (units (Null ∷ s)) h.method.frame.activation.max_stack ≡ false = grind (arith, nat_tests, full) in
      ap (λ n. nat_le n h.method.frame.activation.max_stack) same ∙ test

  pub overflows : {d : held.Thread} (top : FrameView) → d ≡ slice_index_or old.threads.items at.index d → InAnyMethod d (λ f below r. top ≡ f)
      → false ≡ nat_le (units top.activation.stack + 1) top.activation.max_stack → IsRefused content at old (Faults Overflow)
  overflows top got is test =
      let same : top ≡ h.method.frame = is h.method.frame h.method.below _ (read h.method.on got) in
      let full : nat_le (units h.method.frame.activation.stack + 1) h.method.frame.activation.max_stack ≡ false =
      sym (test ∙ ap (λ (f : FrameView). nat_le (units f.activation.stack + 1) f.activation.max_stack) same) in
      is_refused h.method (Faults Overflow) (λ w m.
      instance_row w m
      ∙ ap (λ b. elim b as (λ _. Next) [
        | true ↦ make w (new_instance w.program name) (λ made k. go_on_in (here w) made (Ref k ∷ (here w).frame.stack))
        | false ↦ faults Overflow
      ]) (no_room full w))

-- its class is initialized first
pub begins_instance : {H : Type 0} {content : H → Content ClassId} {at : At} {old : State H} {class : ℕ}
    (h : StandsOn content at old (Links at.linked.now (linked.New class))) {ready : Bool} (told : Readiness content at old class ready) → ready ≡ false
    → {result : Result StepEnd Halt} {new : State H} → Does content at old result new (in_method (begins (class_name_of at.linked.now.program class)))
    → Steps content at old result new
begins_instance {at = at} {class = class} h told e done =
    begins_first h.method h.is.2 told (λ w. push_new (place h.method w) (new_instance w.program h.is.0) (place h.method w).frame.stack) e
    (λ w m. row_is h w m ∙ ap (row (place h.method w)) h.is.1) done
