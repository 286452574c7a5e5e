-- The row of a plain instruction, where it stands.
use Rattle.std.proofs.Common.{◌≡◌, ℕ, List, ◌∷◌, None, refl, sym, ap, ◌∙◌, subst}
use Rattle.std.specs.Prelude.{slice_index_or, Result, Ok, Err}
use Rattle.jm_program.specs.declared.instruction.plain.Plain.{Plain}
use Rattle.jm_values.specs.Activation.{Activation}
use Rattle.jm_values.specs.Outcome as outcome
use Rattle.jm_values.specs.PlainRows.{row_plain}
use Rattle.jm_values.specs.Rename.{rename_outcome, refs_activation}
use Rattle.jm_values.specs.declared.fault.TagFault.{TagFault}
use Rattle.jm_values.proofs.NaturalRows.{plain_natural}
use Rattle.jm_values.proofs.NoNewReferences.{brings_none}
use Rattle.jm_values.specs.Content.{Content, name_of}
use Rattle.jm_world.specs.Here.{throws}
use Rattle.jm_world.specs.Next.{throw}
use Rattle.jm_world.specs.Stepping.{from_outcome, row, step_thread}
use Rattle.jm_world.specs.declared.stop.Stop.TheVariants as why
use Rattle.jm_heap.specs.declared.class_id.ClassId.{ClassId}
use Rattle.jm_ops.specs.Flows.{flow_outcome, class_of}
use Rattle.jm_ops.specs.declared.flow.Flow.{Flow}
use Rattle.jm_ops.specs.declared.flow.Flow.TheVariants.{On, To, Throw}
use Rattle.jm_ops.specs.declared.flow.Thrown.{Thrown}
use Rattle.jm_linked.specs.Links.{Links}
use Rattle.jm_linked.specs.declared.instruction.LinkedInstr.TheVariants as linked
use Rattle.jm_state.specs.declared.halt.Halt.{Halt}
use Rattle.jm_state.specs.declared.halt.Halt.TheVariants.{Stopped}
use Rattle.jm_state.specs.declared.halt.StepEnd.{StepEnd}
use Rattle.jm_state.specs.declared.halt.StepEnd.TheVariants.{Done}
use Rattle.jm_state.specs.declared.state.State.{State}
use Rattle.jm_state.specs.declared.thread.StackFrame.TheVariants.{Method}
use Rattle.jm_state.specs.declared.thread.Thread as held
use Rattle.jm_interp.specs.declared.at.At.{At}
use Rattle.jm_interp.specs.At.{HoldsAll, InMethod, StandsOn, Does, Steps}
use Rattle.jm_interp.specs.Standing.{Stands, running}
use Rattle.jm_interp.specs.Stepped.{Stays}
use Rattle.jm_interp.proofs.Here.{place, row_is, Leaves, done, left, top_held, one_to_one, goes_on, faults_there}
use Rattle.jm_interp.proofs.OnThread.{Leads, with_thread_at, still, same_matches, does_as}

module _ {H : Type 0} {content : H → Content ClassId} {at : At} {old : State H} {op : Plain}
    (h : StandsOn content at old (Links at.linked.now (linked.Plain op))) where
  plain_is : Leads h.method.on step_thread
      (λ w. from_outcome (place h.method w) (rename_outcome (name_of (content old.heap)) (row_plain op h.method.frame.activation)))
  plain_is w m =
      row_is h w m
      ∙ ap (row (place h.method w)) h.is
      ∙ ap (from_outcome (place h.method w)) (plain_natural op (name_of (content old.heap)) h.method.frame.activation (one_to_one h.method))

  plain_held : (b : Activation) → row_plain op h.method.frame.activation ≡ outcome.goes b → HoldsAll content at old (refs_activation b)
  plain_held b e q m = top_held h.method q (brings_none (row_plain op) (λ f x one. plain_natural op f x one) h.method.frame.activation b e q m)

  -- what the call on the thread that was read left
  module _ {t d : held.Thread} (got : d ≡ slice_index_or old.threads.items at.index d) where
    pub plain_faults : {fault : TagFault} → Leaves (row_plain op) (flow_outcome (Err fault)) d t
        → Steps content at old (Err (Stopped (why.TagFault fault))) (with_thread_at old at.index t)
    plain_faults stepped = faults_there h.method got stepped plain_is refl

    pub plain_goes : {flow : Flow} → Leaves (row_plain op) (flow_outcome (Ok flow)) d t → ((thrown : Thrown) → flow ≡ Throw thrown → ⊥)
        → Steps content at old (Ok Done) (with_thread_at old at.index t)
    plain_goes {flow} stepped goes =
        let end = done h.method got stepped in
        let is = on flow goes end.frame.activation in
        goes_on h.method got stepped plain_is is (plain_held end.frame.activation (end.made ∙ is))
      where
        on : (flow : Flow) → ((thrown : Thrown) → flow ≡ Throw thrown → ⊥) → (a : Activation) → flow_outcome (Ok flow) a ≡ outcome.goes a
        on On n a = refl
        on (To target) n a = refl
        on (Throw thrown) n a = absurd (n thrown refl)

    -- it throws: the thread was left as it was
    module _ {flow : Flow} {thrown : Thrown} (stepped : Leaves (row_plain op) (flow_outcome (Ok flow)) d t) (is : flow ≡ Throw thrown) where
      as_before : Stands t (Method h.method.frame ∷ h.method.below) (running h.method.on.object None)
      as_before =
          let end = done h.method got stepped in
          left h.method got stepped (subst (λ x. Stays (flow_outcome (Ok x) end.frame.activation) h.method.frame end.frame) is end.stays)

      pub plain_still : InMethod content at (with_thread_at old at.index t)
      plain_still = record { frame = h.method.frame; below = h.method.below; on = still h.method.on as_before }

      pub plain_throws : {result : Result StepEnd Halt} {new : State H} {class : List ℕ} → class ≡ class_of thrown
          → Does content at (with_thread_at old at.index t) result new (λ w number t. throw w number t class) → Steps content at old result new
      plain_throws c does =
          let end = done h.method got stepped in
          does_as h.method.on (same_matches h.method.on as_before) (λ w m.
          plain_is w m ∙ ap (λ x. from_outcome (place h.method w) (rename_outcome (name_of (content old.heap)) x))
          (end.made ∙ ap (λ x. flow_outcome (Ok x) end.frame.activation) is) ∙ ap (throws (place h.method w)) (sym c)) does
