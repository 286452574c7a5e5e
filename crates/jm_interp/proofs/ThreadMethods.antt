-- The methods of java/lang/Thread (java/lang/Thread, start and run).
use Rattle.std.proofs.Common.{◌≡◌, ℕ, zero, suc, List, [], ◌∷◌, Some, None, Bool, true, false, refl, sym, ap, ◌∙◌, subst, inl, inr, length, drop}
use Rattle.std.specs.Prelude.{codes, nat_eq, slice_get}
use Rattle.std.proofs.lemmas.Option.{same_Some}
use Rattle.jm_program.specs.Flags.{is_abstract}
use Rattle.jm_program.specs.Names.{same_text}
use Rattle.jm_program.specs.declared.class.ClassParts.{ClassParts}
use Rattle.jm_program.specs.declared.class.Method.{Method as Declared}
use Rattle.jm_program.specs.declared.descriptor.FieldType.{FieldType}
use Rattle.jm_builtins.specs.List.{constructor, method, thread}
use Rattle.jm_builtins.specs.Numbers.{number_of}
use Rattle.jm_builtins.specs.declared.built_in_class.BuiltInClass.TheVariants.{Thread}
use Rattle.jm_values.specs.Content.{Content, name_of}
use Rattle.jm_values.specs.Rename.{value_shape}
use Rattle.jm_values.specs.declared.value.Value.{Value}
use Rattle.jm_values.specs.declared.value.Value.TheVariants.{Ref}
use Rattle.jm_values.proofs.Lists.{refs_in}
use Rattle.jm_world.specs.BuiltInMethods.{row_built_in, thread_method, start_thread}
use Rattle.jm_world.specs.Classes.{MethodName, as_class, name_of_method, thread_class}
use Rattle.jm_world.specs.Here.{Here, go_on}
use Rattle.jm_world.specs.Next.{Next}
use Rattle.jm_world.specs.Stepping.{step_thread}
use Rattle.jm_heap.specs.declared.class_id.ClassId.{ClassId}
use Rattle.jm_state.specs.declared.state.State.{State}
use Rattle.jm_interp.specs.declared.at.At.{At}
use Rattle.jm_interp.specs.At.{HoldsAll}
use Rattle.jm_interp.specs.Invoking.{CallsWithoutCode}
use Rattle.jm_interp.specs.TopObject.{StepIs}
use Rattle.jm_interp.proofs.Called.{held_operand}
use Rattle.jm_interp.proofs.CodelessCalls.{on, is_built_in}
use Rattle.jm_interp.proofs.Here.{place}
use Rattle.jm_interp.proofs.OnThread.{Leads}
use Rattle.jm_interp.proofs.OnTop.{operands, step_is}

-- none has parameters, none is abstract, and the second is start
pub record Tells (member : ℕ) (m : Declared) : Type 0 where
  pub parameters : m.descriptor.parameters ≡ []
  pub concrete : is_abstract m.flags ≡ false
  pub starts : same_text m.name (codes "start") ≡ nat_eq member 1

tells : (member : ℕ) (m : Declared) → slice_get thread.methods member ≡ Some m → Tells member m
tells zero m e = subst (Tells 0) (same_Some constructor m e) (record { parameters = refl; concrete = refl; starts = refl })
tells (suc zero) m e =
    subst (Tells 1) (same_Some (method (codes "start") None None) m e) (record { parameters = refl; concrete = refl; starts = refl })
tells (suc (suc zero)) m e =
    subst (Tells 2) (same_Some (method (codes "run") None None) m e) (record { parameters = refl; concrete = refl; starts = refl })
tells (suc (suc (suc n))) m e = cc

of_thread : (here : Here) (m : MethodName) (receiver : ℕ) (arguments s : List Value) → m.class ≡ thread_class
    → row_built_in here m receiver arguments s ≡ thread_method here m receiver s
of_thread here m receiver arguments s class = ap (λ x. row_built_in here (record m { class = x }) receiver arguments s) class

module _ {H : Type 0} {content : H → Content ClassId} {at : At} {old : State H} {member receiver : ℕ}
    (h : CallsWithoutCode content at old (record { class = number_of Thread; member = member }) receiver) where
  class_is : as_class thread ≡ h.found.class
  class_is = same_Some (as_class thread) h.found.class h.declared.class

  told : Tells member h.found.method
  told = tells member h.found.method (subst (λ (c : ClassParts). slice_get c.methods member ≡ Some h.found.method) (sym class_is) h.declared.method)

  no_parameters : h.parameters ≡ []
  no_parameters = sym h.parameters_are ∙ told.parameters

  -- the thread's object is on top
  receiver_on_top : slice_get (on h).frame.activation.stack 0 ≡ Some (Ref receiver)
  receiver_on_top = ap (λ (ps : List FieldType). slice_get (on h).frame.activation.stack (length ps)) (sym no_parameters) ∙ h.calls.has.receiver_is

  pub its_held : HoldsAll content at old (receiver ∷ [])
  its_held q (inl same) =
      held_operand (on h) q (refs_in value_shape (on h).frame.activation.stack 0 (Ref receiver) q receiver_on_top (inl same))
  its_held q (inr z) = absurd z

  abbrev by_name : Here → Bool → Next
  by_name here b = elim b [
    | true ↦ start_thread here (name_of (content old.heap) receiver) (drop 1 here.frame.stack)
    | false ↦ go_on here (drop 1 here.frame.stack)
  ]

  steps : Leads (on h).on step_thread (λ w. by_name (place (on h) w) (nat_eq member 1))
  steps w m =
      let here = place (on h) w in
      let k = name_of (content old.heap) receiver in
      is_built_in h told.concrete w m
      ∙ of_thread here (name_of_method h.found) k _ _ (sym (ap (λ (c : ClassParts). c.name) class_is))
      ∙ ap (λ (ps : List FieldType). thread_method here (name_of_method h.found) k (drop (suc (length ps)) (operands (on h)))) no_parameters
      ∙ ap (by_name here) told.starts

  pub starts : nat_eq member 1 ≡ true → StepIs content at old (λ here. start_thread here (name_of (content old.heap) receiver) (drop 1 here.frame.stack))
  starts is = step_is (on h) (λ here. start_thread here (name_of (content old.heap) receiver) (drop 1 here.frame.stack))
      (λ w m. steps w m ∙ ap (by_name (place (on h) w)) is)

  pub goes_on : nat_eq member 1 ≡ false → StepIs content at old (λ here. go_on here (drop 1 here.frame.stack))
  goes_on is = step_is (on h) (λ here. go_on here (drop 1 here.frame.stack)) (λ w m. steps w m ∙ ap (by_name (place (on h) w)) is)
