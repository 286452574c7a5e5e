-- monitorenter and monitorexit.
use Rattle.std.proofs.Common.{◌≡◌, ℕ, ◌+◌, ◌<◌, ◌^◌, List, [], ◌∷◌, Option, Some, None, Bool, true, false, refl, sym, ap, ◌∙◌, subst, inl, inr, drop}
use Rattle.std.specs.Prelude.{slice_get, codes, Result, Ok, Err}
use Rattle.jm_program.specs.declared.instruction.operation.MonitorOp.TheVariants.{Enter, Exit}
use Rattle.jm_values.specs.Content.{Content, name_of}
use Rattle.jm_values.specs.Shape.{Among}
use Rattle.jm_values.specs.declared.value.Value.{Value}
use Rattle.jm_world.specs.Here.{go_on, go_on_in, throws}
use Rattle.jm_world.specs.Matches.{Matches, places}
use Rattle.jm_world.specs.Monitors.{enter, leave}
use Rattle.jm_world.specs.Next.{Next, goes, throw}
use Rattle.jm_world.specs.Stepping.{step_thread, row}
use Rattle.jm_world.specs.World.{World, Thread}
use Rattle.jm_heap.specs.declared.class_id.ClassId.{ClassId}
use Rattle.jm_linked.specs.Links.{Links}
use Rattle.jm_linked.specs.declared.instruction.LinkedInstr.TheVariants as linked
use Rattle.jm_state.specs.Ends.{Ended}
use Rattle.jm_state.specs.Runnable.{StateRuns}
use Rattle.jm_state.specs.declared.halt.Halt.{Halt}
use Rattle.jm_state.specs.declared.halt.StepEnd.{StepEnd}
use Rattle.jm_state.specs.declared.halt.StepEnd.TheVariants.{Done}
use Rattle.jm_state.specs.declared.state.State.{State}
use Rattle.jm_interp.specs.declared.at.At.{At}
use Rattle.jm_interp.specs.declared.top_object.Refusal.{Refusal}
use Rattle.jm_interp.specs.At.{parts_at, HoldsAll, InMethod, OnFrames, StandsOn, Does, Steps, in_method}
use Rattle.jm_interp.specs.Locking.{Lies, LeftAs, OnlyMonitors}
use Rattle.jm_interp.specs.TopObject.{object_of, IsRefused}
use Rattle.jm_interp.proofs.Entered.{IsNotMade, then_made, then_not, then_stands, stands_in, still_there, left_in_world, not_left, leave_only}
use Rattle.jm_interp.proofs.Here as row_here
use Rattle.jm_interp.proofs.Here.{place}
use Rattle.jm_interp.proofs.Objects.{IsObject}
use Rattle.jm_interp.proofs.OnThread.{Leads, model, does, does_as}
use Rattle.jm_interp.proofs.OnTop.{by, with_found, object_is, operands, object_refused, object_known, its_place, its_object}
use Rattle.jm_interp.proofs.OnTop.{is_refused, goes_by, with_its}

-- what is left of the row: the object's operand goes, and the frame goes on
abbrev pub ends_row : World → ℕ → Thread → Next
ends_row = in_method (λ here. go_on here (drop 1 here.frame.stack))

module _ {H : Type 0} {content : H → Content ClassId} {at : At} {old : State H} where
  -- a thread that stands on a monitor's instruction, in a method
  module _ (h : InMethod content at old) where
    abbrev f : ℕ → ℕ
    f = name_of (content old.heap)

    abbrev stack : List Value
    stack = h.frame.activation.stack

    pub framed : OnFrames content at old
    framed = record { frames = _; pending = _; on = h.on }

    -- it holds the object on top
    pub top_held : {p : ℕ} → object_of (slice_get stack 0) ≡ Ok p → HoldsAll content at old (p ∷ [])
    top_held e q (inl same) = subst (λ x. Among x (places (parts_at content at old))) (sym same) (its_place h 0 e)
    top_held e q (inr z) = absurd z

    -- what the row does to the object on top, or it is refused
    module _ (rule : World → ℕ → Next) (row_is : Leads h.on step_thread (λ w. by (place h w) (object_of (slice_get (operands h) 0)) (λ k.
        with_found (place h w) k (λ o. rule w k)))) where
      pub no_object : {r : Refusal} → object_of (slice_get stack 0) ≡ Err r → IsRefused content at old r
      no_object {r} e = is_refused h r (goes_by h (λ w k. with_found (place h w) k (λ o. rule w k)) row_is (object_refused h 0 e))

      pub to_object : {p : ℕ} → object_of (slice_get stack 0) ≡ Ok p → Leads h.on step_thread (λ w. rule w (f p))
      to_object {p} e =
          let its : IsObject h.on p = its_object h 0 e in
          with_its h its (λ w o. rule w (f p)) (goes_by h (λ w k. with_found (place h w) k (λ o. rule w k)) row_is (object_known h 0 e))
          {id = its.object.type} refl

  -- monitorenter
  module _ (h : StandsOn content at old (Links at.linked.now (linked.Monitor Enter))) where
    abbrev pub enters : World → ℕ → Next
    enters w k = enter w (at.index + 1) k (λ v. go_on_in (place h.method w) v (drop 1 (operands h.method)))

    pub enter_row : Leads h.method.on step_thread (λ w. by (place h.method w) (object_of (slice_get (operands h.method) 0)) (λ k.
        with_found (place h.method w) k (λ o. enters w k)))
    enter_row w m =
        row_here.row_is h w m
        ∙ ap (row (place h.method w)) h.is
        ∙ object_is (place h.method w) (operands h.method) (λ k o s. enter w (at.index + 1) k (λ v. go_on_in (place h.method w) v s))

    module _ {mid : State H} (only : OnlyMonitors old mid) {p : ℕ} (e : object_of (slice_get h.method.frame.activation.stack 0) ≡ Ok p) where
      abbrev entered : World → ℕ → Thread → Next
      entered w number t = enter w number (name_of (content old.heap) p) goes

      pub then_in : Does content at old (Ok Done) mid entered → (k : InMethod content at mid) × (k.frame.activation.at + 1 < 2 ^ 64)
      then_in first = (
        record {
          frame = h.method.frame;
          below = h.method.below;
          on = then_stands h.method.on (Some (name_of (content old.heap) p)) only first;
        },
        h.room,
      )

      pub enters_and_goes : {new : State H} → Does content at old (Ok Done) mid entered → Does content at mid (Ok Done) new ends_row
          → Steps content at old (Ok Done) new
      enters_and_goes first second =
          does_as h.method.on (λ w m. m) (to_object h.method enters enter_row e)
          (then_made h.method.on (Some (name_of (content old.heap) p)) ends_row first second)

      pub enters_not : {result : Result StepEnd Halt} → IsNotMade result → Does content at old result mid entered → Steps content at old result mid
      enters_not not first = does_as h.method.on (λ w m. m) (to_object h.method enters enter_row e)
          (then_not h.method.on (Some (name_of (content old.heap) p)) ends_row not first)

  -- monitorexit
  module _ (h : StandsOn content at old (Links at.linked.now (linked.Monitor Exit))) where
    abbrev by_left : World → Option World → Next
    by_left w o = elim o as (λ _. Next) [
      | None ↦ throws (place h.method w) (codes "java/lang/IllegalMonitorStateException")
      | Some v ↦ go_on_in (place h.method w) v (drop 1 (operands h.method))
    ]

    abbrev pub leaves : World → ℕ → Next
    leaves w k = by_left w (leave w (at.index + 1) k)

    pub leave_row : Leads h.method.on step_thread (λ w. by (place h.method w) (object_of (slice_get (operands h.method) 0)) (λ k.
        with_found (place h.method w) k (λ o. leaves w k)))
    leave_row w m =
        row_here.row_is h w m
        ∙ ap (row (place h.method w)) h.is
        ∙ object_is (place h.method w) (operands h.method) (λ k o s. elim (leave w (at.index + 1) k) as (λ _. Next) [
          | None ↦ throws (place h.method w) (codes "java/lang/IllegalMonitorStateException")
          | Some v ↦ go_on_in (place h.method w) v s
        ])

    module _ {p : ℕ} (e : object_of (slice_get h.method.frame.activation.stack 0) ≡ Ok p) where
      pub lies : Lies content old p
      lies = let o = its_object h.method 0 e in (o.serial, o.serial_is)

      module _ {mid : State H} (only : OnlyMonitors old mid) (runs : StateRuns at.linked.now mid) {left : Bool}
          (as_left : (w : World) → Matches (parts_at content at old) w
          → LeftAs left (leave w (at.index + 1) (name_of (content old.heap) p)) (parts_at content at mid) w) where
        own_left : (b : Bool) → left ≡ b → (w : World) → Matches (parts_at content at old) w
            → LeftAs b (leave w (at.index + 1) (name_of (content old.heap) p)) (parts_at content at mid) w
        own_left b is w m =
            subst (λ x. LeftAs x (leave w (at.index + 1) (name_of (content old.heap) p)) (parts_at content at mid) w) is (as_left w m)

        pub left_stands : left ≡ true → (k : InMethod content at mid) × (k.frame.activation.at + 1 < 2 ^ 64)
        left_stands is =
            let v = left_in_world h.method.on.world (leave h.method.on.world (at.index + 1) (name_of (content old.heap) p))
            (own_left true is h.method.on.world h.method.on.beside.matches) in
            (record { frame = h.method.frame; below = h.method.below; on = stands_in h.method.on only runs v.0 v.2 }, h.room)

        pub leaves_and_goes : left ≡ true → {new : State H} → Does content at mid (Ok Done) new ends_row → Steps content at old (Ok Done) new
        leaves_and_goes is {new} done = does h.method.on done.runs (λ w m.
            let o = leave w (at.index + 1) (name_of (content old.heap) p) in
            let v = left_in_world w o (own_left true is w m) in
            let only_of = leave_only w v.0 (at.index + 1) (name_of (content old.heap) p) v.1 in
            subst (Ended (Ok Done) (parts_at content at new) w) (sym (to_object h.method leaves leave_row e w m ∙ ap (by_left w) v.1))
            (done.ends v.0 (model h.method.on) v.2 (still_there h.method.on w v.0 only_of m)))

        abbrev no_owner : left ≡ false → (w : World) (m : Matches (parts_at content at old) w)
            → (leave w (at.index + 1) (name_of (content old.heap) p) ≡ None) × Matches (parts_at content at mid) w
        no_owner is w m = not_left (leave w (at.index + 1) (name_of (content old.heap) p)) (own_left false is w m)

        pub throws_no_owner : left ≡ false → {name : List ℕ} → name ≡ codes "java/lang/IllegalMonitorStateException"
            → {result : Result StepEnd Halt} {new : State H} → Does content at mid result new (λ w number t. throw w number t name)
            → Steps content at old result new
        throws_no_owner is named done =
            does_as h.method.on (λ w m. (no_owner is w m).1) (λ w m.
            to_object h.method leaves leave_row e w m ∙ ap (by_left w) (no_owner is w m).0 ∙ ap (throw w (at.index + 1) (model h.method.on)) (sym named)) done
