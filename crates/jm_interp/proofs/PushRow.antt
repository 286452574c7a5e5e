-- A value that is pushed, where it stands.
use Rattle.std.proofs.Common.{◌≡◌, ℕ, ◌+◌, List, [], ◌∷◌, Some, None, refl, sym, ap, ◌∙◌, subst, inl, inr}
use Rattle.std.specs.Prelude.{slice_get, Ok, Err}
use Rattle.jm_program.specs.declared.class.ClassParts.{ClassParts}
use Rattle.jm_frames.specs.Made.{outcome}
use Rattle.jm_values.specs.Constants.{push_constant}
use Rattle.jm_values.specs.Rename.{rename, refs, rename_outcome}
use Rattle.jm_values.specs.Shape.{Among, list_shape}
use Rattle.jm_values.specs.declared.value.Value.{Value}
use Rattle.jm_values.specs.declared.fault.TagFault.{TagFault}
use Rattle.jm_values.proofs.Among.{among_left}
use Rattle.jm_values.proofs.NaturalSteps.{push_natural}
use Rattle.jm_world.specs.Here.{Here, push}
use Rattle.jm_world.proofs.Pushing.{push_is}
use Rattle.jm_values.proofs.Pushing.{push_brings}
use Rattle.jm_world.specs.Next.{Next, faults}
use Rattle.jm_values.specs.declared.fault.TagFault.TheVariants.{WrongKind}
use Rattle.jm_values.specs.declared.value.Value.TheVariants.{Ref}
use Rattle.jm_world.specs.World.{World, Thread, Static, literal_in, static_in, state_in, state_of}
use Rattle.jm_values.specs.Content.{Content, name_of}
use Rattle.jm_world.specs.Classes.{system_class}
use Rattle.jm_world.specs.Loads.{Loads}
use Rattle.jm_world.specs.Loading.{first_statics, literal_texts, out_field}
use Rattle.jm_world.specs.Renaming.{static_shape}
use Rattle.jm_world.specs.Stepping.{from_outcome, row, step_thread}
use Rattle.jm_world.specs.declared.class_state.ClassState.TheVariants.{Done}
use Rattle.jm_world.specs.declared.stop.Stop.TheVariants as why
use Rattle.jm_heap.specs.declared.class_id.ClassId.{ClassId}
use Rattle.jm_linked.specs.Links.{Links}
use Rattle.jm_linked.specs.declared.instruction.LinkedInstr.{LinkedInstr}
use Rattle.jm_linked.specs.Named.{named_statics}
use Rattle.jm_state.specs.Parts.{parts}
use Rattle.jm_state.specs.declared.halt.Halt.TheVariants.{Stopped}
use Rattle.jm_state.specs.declared.halt.StepEnd.TheVariants as end
use Rattle.jm_state.specs.declared.state.State.{State}
use Rattle.jm_state.specs.declared.thread.Thread as held
use Rattle.jm_interp.specs.Pushing.{Pushes, int, long, literal, system_out}
use Rattle.jm_linked.proofs.BuiltIns.{others}
use Rattle.jm_linked.proofs.SystemOut.{system_out_row, not_listed}
use Rattle.std.specs.Prelude.{slice_index_or}
use Rattle.jm_interp.specs.declared.at.At.{At}
use Rattle.jm_interp.specs.At.{InMethod, Holds, StandsOn, Does, in_method}
use Rattle.jm_interp.proofs.Here.{Leaves, place, row_is, top_held, done, goes_on, faults_there}
use Rattle.jm_interp.proofs.LiteralRow.{literal_held, literal_is, text_found}
use Rattle.jm_interp.proofs.OnThread.{Leads, model, with_thread_at, held_statics}

-- the first static field is System.out
out_value : (program : List ClassParts) (f : ℕ → ℕ) (vs : List Value) (v : Value) (ss : List Static)
    → (list_shape static_shape).rename f (named_statics (first_statics program) vs) ≡ ss → slice_get vs 0 ≡ Some v → static_in ss out_field ≡ Some (rename f v)
out_value program f [] v ss e at = cc
out_value program f (u ∷ vs) v ss e at =
    let same : u ≡ v = cc in
    ap (λ x. static_in x out_field) (sym e) ∙ ap (λ x. Some (rename f x)) same

out_refs : (program : List ClassParts) (vs : List Value) (v : Value) (q : ℕ) → slice_get vs 0 ≡ Some v → Among q (refs v)
    → Among q ((list_shape static_shape).refs (named_statics (first_statics program) vs))
out_refs program [] v q at m = cc
out_refs program (u ∷ vs) v q at m = let same : u ≡ v = cc in among_left q (refs u) _ (subst (λ x. Among q (refs x)) (sym same) m)

-- the model's push of a value of the machine's
abbrev pub pushes : (ℕ → ℕ) → Value → World → ℕ → Thread → Next
pushes f v = in_method (λ here. push here (rename f v) here.frame.stack)

module _ {H : Type 0} {content : H → Content ClassId} {at : At} {old : State H} (h : InMethod content at old) where
  push_row : (v : Value) → Leads h.on (pushes (name_of (content old.heap)) v)
      (λ w. from_outcome (place h w) (rename_outcome (name_of (content old.heap)) (push_constant v h.frame.activation)))
  push_row v w m =
      sym (push_is (place h w) (rename (name_of (content old.heap)) v) (place h w).frame.stack)
      ∙ ap (from_outcome (place h w)) (push_natural (name_of (content old.heap)) h.frame.activation v h.frame.activation.stack)

  module _ (v : Value) {t d : held.Thread} (got : d ≡ slice_index_or old.threads.items at.index d) where
    pub push_goes : Holds content at old v → Leaves (push_constant v) (outcome (Ok tt)) d t
        → Does content at old (Ok end.Done) (with_thread_at old at.index t) (pushes (name_of (content old.heap)) v)
    push_goes holds stepped =
        let end = done h got stepped in
        goes_on h got stepped (push_row v) refl (λ q m. elim
        (push_brings v h.frame.activation.stack h.frame.activation end.frame.activation (λ q m. m) end.made q m) [ inl y ↦ top_held h q y | inr y ↦ holds q y ])

    pub push_faults : {fault : TagFault} → Leaves (push_constant v) (outcome (Err fault)) d t
        → Does content at old (Err (Stopped (why.TagFault fault))) (with_thread_at old at.index t) (pushes (name_of (content old.heap)) v)
    push_faults stepped = faults_there h got stepped (push_row v) refl

-- the value of an instruction
module _ {H : Type 0} {content : H → Content ClassId} {at : At} {old : State H} (v : Value) (li : LinkedInstr)
    (h : StandsOn content at old (Links at.linked.now li)) where
  pub value_held : Pushes old.statics.items old.literals.items li v → Holds content at old v
  value_held p = by p
    where
      by : {i : LinkedInstr} {x : Value} → Pushes old.statics.items old.literals.items i x → Holds content at old x
      by (int n x e) q m = absurd (subst (λ y. Among q (refs y)) e m)
      by (long n x e) q m = absurd (subst (λ y. Among q (refs y)) e m)
      by (literal n p x e there) q m = literal_held h.method.on n p there q (subst (λ y. Among q (refs y)) e m)
      by (system_out x e) q m = held_statics h.method.on q (out_refs at.linked.now.program old.statics.items x q e m)

  pub pushed_is : Pushes old.statics.items old.literals.items li v
      → Leads h.method.on step_thread (λ w. pushes (name_of (content old.heap)) v w (at.index + 1) (model h.method.on))
  unfolding parts
  pushed_is p w m = row_is h w m ∙ by h.is p
    where
      f : ℕ → ℕ
      f = name_of (content old.heap)

      o : Here
      o = place h.method w

      by : {i : LinkedInstr} {x : Value} → Links at.linked.now i h.instruction → Pushes old.statics.items old.literals.items i x
          → row o h.instruction ≡ push o (rename f x) o.frame.stack
      by k (int n x e) = ap (row o) k ∙ ap (λ y. push o (rename f y) o.frame.stack) (sym e)
      by k (long n x e) = ap (row o) k ∙ ap (λ y. push o (rename f y) o.frame.stack) (sym e)
      by k (literal n p x e there) =
          let l = at.linked.now in
          let value : literal_in o.world.literals k.0 ≡ Some (f p) =
          ap (λ ls. literal_in ls k.0) (sym m.literals)
          ∙ literal_is f (literal_texts l.program) old.literals.items k.0 n p (text_found l.program n k.0 k.2) there in
          ap (row o) k.1
          ∙ ap (λ r. elim r as (λ _. Next) [ None ↦ faults WrongKind | Some s ↦ push o (Ref s) o.frame.stack ]) value
          ∙ ap (λ y. push o (rename f y) o.frame.stack) (sym e)
      by k (system_out x e) =
          let l = at.linked.now in
          let is = h.method.on.beside.linked in
          let loads : Loads o.world.program = subst Loads m.program is.loads in
          let done : state_of o.world system_class ≡ Done =
          ap (λ c. state_in c system_class) (sym m.classes)
          ∙ not_listed system_class l.program old.classes (others l.program is.loads system_class refl) in
          let value : static_in o.world.statics out_field ≡ Some (rename f x) = out_value l.program f old.statics.items x w.statics m.statics e in
          ap (row o) k.1 ∙ system_out_row o k.0 (rename f x) loads k.2 done value
