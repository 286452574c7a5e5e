-- Thread.start: the thread of an object begins behind the others, or it was started before.
use Rattle.std.proofs.Common.{◌≡◌, ℕ, ◌+◌, ◌-◌, ◌<◌, ◌^◌, arith, List, [], ◌∷◌, Some, Bool, true, false, refl, sym, ap, ◌∙◌, subst, inl, drop}
use Rattle.std.specs.Prelude.{codes, slice_get, map, Result, Ok, Err}
use Rattle.jm_values.specs.Content.{Content, name_of, serial_at}
use Rattle.jm_values.proofs.SoundContents.{name_is}
use Rattle.jm_world.specs.BuiltInMethods.{start_thread, was_started, new_thread, with_new_thread}
use Rattle.jm_world.specs.Here.{moved_on, topped, throws}
use Rattle.jm_world.specs.Matches.{Matches}
use Rattle.jm_world.specs.Next.{Next, goes, throw}
use Rattle.jm_world.specs.Stepping.{step_thread}
use Rattle.jm_world.specs.World.{World}
use Rattle.jm_world.proofs.Changed.{reach_shared, place_stands}
use Rattle.jm_heap.specs.declared.class_id.ClassId.{ClassId}
use Rattle.jm_state.specs.Parts.{parts}
use Rattle.jm_state.specs.Runnable.{IsRunnable, is_among, is_started}
use Rattle.jm_state.specs.View.{view_of}
use Rattle.jm_state.specs.declared.halt.Halt.{Halt}
use Rattle.jm_state.specs.declared.halt.Halt.TheVariants.{OutOfMemory}
use Rattle.jm_state.specs.declared.halt.StepEnd.{StepEnd}
use Rattle.jm_state.specs.declared.halt.StepEnd.TheVariants.{Done}
use Rattle.jm_state.specs.declared.state.State.{State}
use Rattle.jm_state.specs.declared.thread.Thread as held
use Rattle.jm_interp.specs.declared.at.At.{At}
use Rattle.jm_interp.specs.At.{parts_at, HoldsAll, InMethod, Does, Steps}
use Rattle.jm_interp.specs.Starting.{Added, LooksAlike}
use Rattle.jm_interp.specs.TopObject.{StepIs}
use Rattle.jm_interp.proofs.After.{then_does}
use Rattle.jm_interp.proofs.Here.{place}
use Rattle.jm_interp.proofs.Locked.{reached, lies}
use Rattle.jm_interp.proofs.MonitorRows.{ends_row, framed}
use Rattle.jm_interp.proofs.OnThread.{Leads, model, thread_there, does, does_as}
use Rattle.jm_interp.proofs.OnTop.{operands}
use Rattle.jm_interp.proofs.Started.{was_started_is, set_front, added_runs, added_matches, model_there, stands_added}

-- the object's serial is that of its place
pub object_lies : {H : Type 0} {content : H → Content ClassId} {at : At} {old : State H} (h : InMethod content at old) {object : ℕ}
    → HoldsAll content at old (object ∷ []) → (k : ℕ) × (serial_at (content old.heap) object ≡ Some k)
object_lies h inside = lies (framed h) inside

module _ {H : Type 0} {content : H → Content ClassId} {at : At} {old : State H} (h : InMethod content at old) {object serial : ℕ}
    (inside : HoldsAll content at old (object ∷ [])) (there : serial_at (content old.heap) object ≡ Some serial)
    (step : StepIs content at old (λ here. start_thread here (name_of (content old.heap) object) (drop 1 here.frame.stack))) where
  abbrev k : ℕ
  k = name_of (content old.heap) object

  abbrev by_started : World → Bool → Next
  by_started w b = elim b [
    | true ↦ throws (place h w) (codes "java/lang/IllegalThreadStateException")
    | false ↦ goes (with_new_thread (topped (place h w) w (moved_on (place h w).frame (drop 1 (operands h)))) (new_thread k))
  ]

  its_step : Leads h.on step_thread (λ w. by_started w (was_started k w.threads))
  its_step w m = step w (model h.on) m (thread_there h.on w m)

  started_is : (w : World) → Matches (parts_at content at old) w → was_started k w.threads ≡ is_among serial old.started.keys
  unfolding parts
  started_is w m =
      was_started_is k w.threads
      ∙ ap (is_started k) (sym m.thread_serials)
      ∙ ap (λ n. is_started n (map (λ (t : held.Thread). t.serial) old.threads.items)) (name_is (content old.heap) object serial there)
      ∙ sym (h.on.beside.runs.started serial)

  -- it was started before
  pub throws_again : is_among serial old.started.keys ≡ true → {name : List ℕ} → name ≡ codes "java/lang/IllegalThreadStateException"
      → {result : Result StepEnd Halt} {new : State H} → Does content at old result new (λ w number t. throw w number t name)
      → Steps content at old result new
  throws_again before named done = does_as h.on (λ w m. m) (λ w m.
      its_step w m ∙ ap (by_started w) (started_is w m ∙ before) ∙ ap (throw w (at.index + 1) (model h.on)) (sym named)) done

  -- a growth was refused
  pub no_memory : {new : State H} → LooksAlike old new → Steps content at old (Err OutOfMemory) new
  no_memory {new} alike = does h.on (subst (IsRunnable at.linked.now) (sym alike.view) h.on.beside.runs) (λ w m.
      subst (λ c. Matches (parts at.linked.now (content c) (view_of new)) w) (sym alike.heap)
      (subst (λ v. Matches (parts at.linked.now (content old.heap) v) w) (sym alike.view) m))

  -- it begins
  module _ {mid : State H} (added : Added old mid object serial) where
    match : (w : World) → Matches (parts_at content at old) w → Matches (parts_at content at mid) (with_new_thread w (new_thread k))
    match w m =
        let mach = parts_at content at old in
        added_matches content at.linked.now added w m there (place_stands mach w m (reached w) (reach_shared mach w m) object (inside object (inl refl)))

    pub method_in : h.frame.activation.at + 1 < 2 ^ 64 → (k : InMethod content at mid) × (k.frame.activation.at + 1 < 2 ^ 64)
    method_in room = (
      record {
        frame = h.frame;
        below = h.below;
        on = stands_added h.on added (added_runs content at.linked.now added h.on.beside.runs) (with_new_thread h.on.world (new_thread k))
            (match h.on.world h.on.beside.matches);
      },
      room,
    )

    pub begins : is_among serial old.started.keys ≡ false → {new : State H} → Does content at mid (Ok Done) new ends_row → Steps content at old (Ok Done) new
    begins not done =
        then_does h.on (added_runs content at.linked.now added h.on.beside.runs) (λ w. with_new_thread w (new_thread k)) (λ w. model h.on) match
        (λ w m. model_there h.on added w (new_thread k) m) (λ w m.
        let n : at.index ≡ at.index + 1 - 1 = omega arith in
        let here : slice_get w.threads (at.index + 1 - 1) ≡ Some (model h.on) = subst (λ i. slice_get w.threads i ≡ Some (model h.on)) n
        (thread_there h.on w m) in
        its_step w m
        ∙ ap (by_started w) (started_is w m ∙ not)
        ∙ ap (λ ts. goes (record w { threads = ts })) (sym (set_front w.threads (new_thread k ∷ []) (at.index + 1 - 1) (model h.on) _ here))) done
