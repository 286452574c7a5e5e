-- A thread that has ended.
use Rattle.std.proofs.Common.{◌≡◌, ℕ, ◌+◌, ◌<◌, arith, List, [], Option, None, false, refl, sym, ap, ◌∙◌, subst}
use Rattle.std.specs.Prelude.{slice_set, map, Ok}
use Rattle.std.specs.Vec.{with_item}
use Rattle.jm_values.specs.Content.{Content}
use Rattle.jm_world.specs.Next.{goes}
use Rattle.jm_world.specs.World.{Thread, is_running, live_among, with_thread, returned}
use Rattle.jm_heap.specs.declared.class_id.ClassId.{ClassId}
use Rattle.jm_state.specs.Parts.{parts, thread_part, ending_part}
use Rattle.jm_state.specs.Runnable.{ThreadRuns, StateRuns, is_started}
use Rattle.jm_state.specs.declared.halt.StepEnd.TheVariants.{Done}
use Rattle.jm_state.specs.declared.state.State.{State}
use Rattle.jm_state.specs.declared.thread.Ending as code
use Rattle.jm_state.specs.declared.thread.StackFrame.{StackFrame}
use Rattle.jm_state.specs.declared.thread.Thread as held
use Rattle.jm_interp.specs.declared.at.At.{At}
use Rattle.jm_interp.specs.At.{OnThread, Does}
use Rattle.jm_interp.specs.Ending.{ended_as}
use Rattle.jm_interp.specs.Standing.{ThreadRest, Stands}
use Rattle.jm_values.proofs.Lists.{get_map, map_set}
use Rattle.jm_interp.proofs.OnThread.{goes_to, object_stays, serials_stay}
use Rattle.jm_interp.proofs.Threads.{held_is, all_set}
use Rattle.jm_world.proofs.Live.{live_less}

module _ {H : Type 0} {content : H → Content ClassId} {at : At} {old : State H} {fs : List StackFrame} {p : Option ℕ} (h : OnThread content at old fs p) where
  -- with the thread as another that has ended, one less is live
  live_without : (y : Thread) → is_running y.ending ≡ false
      → live_among (slice_set (map (thread_part at.linked.now) old.threads.items) at.index y) + 1 ≡ old.live
  live_without y ended =
      let part = thread_part at.linked.now in
      live_less (map part old.threads.items) at.index (part h.stands.thread) y (get_map part old.threads.items at.index h.stands.thread h.stands.at)
      (ap (λ (x : ThreadRest). is_running (ending_part at.linked.now.program x.ending)) h.stands.stands.rest_is) ended
      ∙ sym h.beside.runs.live

  pub one_lives : 0 < old.live
  one_lives = let a = live_without (record { object = None; frames = []; pending = None; ending = returned }) refl in omega arith

  module _ (left : ℕ) {t : held.Thread} {e : code.Ending} (s : Stands t [] (record { object = h.object; pending = None; ending = e }))
      (ended : is_running (ending_part at.linked.now.program e) ≡ false) (fewer : old.live ≡ left + 1) where
    abbrev ended_state : State H
    ended_state = record old { threads = with_item old.threads at.index t; live = left }

    ended_runs : StateRuns at.linked.now ended_state
    ended_runs =
        let part = thread_part at.linked.now in
        let r = h.beside.runs in
        let ends : is_running (part t).ending ≡ false = ap (λ (x : ThreadRest). is_running (ending_part at.linked.now.program x.ending)) s.rest_is ∙ ended in
        let a = live_without (part t) ends in
        let b : live_among (map part (slice_set old.threads.items at.index t)) ≡ live_among (slice_set (map part old.threads.items) at.index (part t)) =
        ap live_among (map_set part old.threads.items at.index t) in
        record {
          threads =
              all_set (ThreadRuns at.linked.now) old.threads.items at.index t r.threads
              (subst (ThreadRuns at.linked.now) (sym (held_is s)) (record { frames = tt; few = omega arith }));
          live = omega arith;
          statics = r.statics;
          literals = r.literals;
          classes = r.classes;
          started = λ k. r.started k ∙ ap (is_started k) (sym (serials_stay h t (ap (λ (x : ThreadRest). x.object.serial) s.rest_is)));
        }

    pub ends : Does content at old (Ok Done) ended_state (λ w number x. goes (ended_as w number x (ending_part at.linked.now.program e)))
    unfolding parts
    ends =
        let y : Option ℕ → Thread = λ object. record { object = object; frames = []; pending = None; ending = ending_part at.linked.now.program e } in
        let rest : ThreadRest = record { object = h.object; pending = None; ending = e } in
        goes_to h ended_state (λ w. w.classes) (λ w. w.output) ended_runs
        (record { threads = refl; started = refl; statics = refl; literals = refl; monitors = refl; heap = refl; stop = refl }) s refl
        (λ q a. absurd a) (λ w m. (m.classes, m.output))
        (λ w m. ap (λ o. goes (with_thread w (at.index + 1) (y o))) (sym (object_stays h [] rest refl w m)))
