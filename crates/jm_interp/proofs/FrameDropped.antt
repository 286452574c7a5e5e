-- The top frame that is dropped while an exception is pending, and its monitor, which is left first.
use Rattle.std.proofs.Common.{◌≡◌, ℕ, ◌+◌, List, [], ◌∷◌, ◌++◌, Option, Some, None, Bool, true, false, drop, refl, sym, ap, ◌∙◌, subst}
use Rattle.std.specs.Prelude.{map, option_map, is_some, unwrap_or, slice_get, slice_index_or, Result, Ok, codes}
use Rattle.jm_values.specs.Content.{Content, name_of}
use Rattle.jm_values.specs.Rename.{refs_activation}
use Rattle.jm_values.proofs.Among.{among_left, among_right}
use Rattle.jm_world.specs.Frames.{frames_shape, optional_number_shape, rename_frame}
use Rattle.jm_world.specs.Matches.{Matches}
use Rattle.jm_world.specs.Monitors.{leave_if, left_in, monitor_in}
use Rattle.jm_world.specs.Next.{Next}
use Rattle.jm_world.specs.Throwing.{unwound_anew}
use Rattle.jm_world.specs.World as world
use Rattle.jm_world.specs.World.{World, Monitor}
use Rattle.jm_heap.specs.declared.class_id.ClassId.{ClassId}
use Rattle.jm_linked.specs.Links.{LinkedView}
use Rattle.jm_state.specs.Parts.{frame_part}
use Rattle.jm_state.specs.Runnable.{StateRuns}
use Rattle.jm_state.specs.declared.halt.Halt.{Halt}
use Rattle.jm_state.specs.declared.halt.StepEnd.{StepEnd}
use Rattle.jm_state.specs.declared.halt.StepEnd.TheVariants.{Done}
use Rattle.jm_state.specs.declared.state.State.{State}
use Rattle.jm_state.specs.declared.thread.StackFrame.{StackFrame}
use Rattle.jm_state.specs.declared.thread.StackFrame.TheVariants.{Method, Initialization, Entry}
use Rattle.jm_state.specs.declared.thread.Thread as held
use Rattle.jm_interp.specs.declared.at.At.{At}
use Rattle.jm_interp.specs.At.{parts_at, HoldsAll, OnFrames, Does}
use Rattle.jm_interp.specs.Catching.{dropped_by, monitor_of, monitor_on_top}
use Rattle.jm_interp.specs.Ending.{unwound_to}
use Rattle.jm_interp.specs.Locking.{LiesIf, LeftAs}
use Rattle.jm_interp.specs.Standing.{ThreadRest, Stands}
use Rattle.jm_interp.proofs.After.{seen_after, then_does}
use Rattle.jm_interp.proofs.MethodLeft.{lies_if, left_so, none_left}
use Rattle.jm_interp.proofs.OnThread.{Leads, model, thread_there, read, does_as, held_frames}

-- the model has the same monitor on top
monitor_seen : (l : LinkedView) (f : ℕ → ℕ) (gs : List StackFrame)
    → monitor_of (map (rename_frame f) (map (frame_part l) gs)) ≡ option_map f (monitor_on_top gs)
monitor_seen l f [] = refl
monitor_seen l f (Method v ∷ gs) = refl
monitor_seen l f (Initialization class stage ∷ gs) = refl
monitor_seen l f (Entry ∷ gs) = refl

-- the world in which it was left, with the same threads
abbrev left_in_world : World → ℕ → Option ℕ → World
left_in_world w number m = unwrap_or (leave_if w number m) w

threads_stay : (w : World) (number : ℕ) (m : Option ℕ) → (left_in_world w number m).threads ≡ w.threads
threads_stay w number None = refl
threads_stay w number (Some k) = by (left_in w.monitors number k (monitor_in w.monitors k))
  where
    by : (o : Option (List Monitor))
        → (unwrap_or (elim o as (λ _. Option World) [ None ↦ None | Some ms ↦ Some (record w { monitors = ms }) ]) w).threads ≡ w.threads
    by None = refl
    by (Some ms) = refl

was_left : (o : Option World) (w : World) → true ≡ is_some o → o ≡ Some (unwrap_or o w)
was_left None w e = cc
was_left (Some u) w e = refl

-- the monitor that was read
pub monitor_here : {H : Type 0} {content : H → Content ClassId} {at : At} {old : State H} (h : OnFrames content at old) {d : held.Thread} {m : Option ℕ}
    → d ≡ slice_index_or old.threads.items at.index d → ((fs : List StackFrame) (r : ThreadRest) → Stands d fs r → m ≡ monitor_on_top fs)
    → m ≡ monitor_on_top h.frames
monitor_here h got finds = finds h.frames _ (read h.on got)

module _ {H : Type 0} {content : H → Content ClassId} {at : At} {old : State H} (h : OnFrames content at old) {m : Option ℕ}
    (monitor_is : m ≡ monitor_on_top h.frames) where
  on_top_held : (gs : List StackFrame) → HoldsAll content at old (frames_shape.refs (map (frame_part at.linked.now) gs))
      → HoldsAll content at old (optional_number_shape.refs (monitor_on_top gs))
  on_top_held [] held q a = absurd a
  on_top_held (Method v ∷ gs) held q a =
      held q
      (among_left q (refs_activation v.activation ++ optional_number_shape.refs v.monitor) (frames_shape.refs (map (frame_part at.linked.now) gs))
      (among_right q (refs_activation v.activation) (optional_number_shape.refs v.monitor) a))
  on_top_held (Initialization class stage ∷ gs) held q a = absurd a
  on_top_held (Entry ∷ gs) held q a = absurd a

  pub monitor_lies : LiesIf content old m
  monitor_lies =
      lies_if content at old h.on.world h.on.beside.matches m
      (subst (λ o. HoldsAll content at old (optional_number_shape.refs o)) (sym monitor_is) (on_top_held h.frames (held_frames h.on)))

  abbrev f : ℕ → ℕ
  f = name_of (content old.heap)

  abbrev leaving : World → Option World
  leaving w = leave_if w (at.index + 1) (option_map f m)

  -- whether the thread owns it, beside every world
  abbrev OwnsIf : Bool → Type 0
  OwnsIf b = (w : World) → Matches (parts_at content at old) w → b ≡ is_some (leaving w)

  by_leaving : world.Ending → World → Option World → Next
  by_leaving e w o = elim o as (λ _. Next) [
    | Some left ↦ unwound_to left (at.index + 1) (model h.on) (drop 1 (model h.on).frames) e
    | None ↦ unwound_anew w w (at.index + 1) (model h.on) (drop 1 (model h.on).frames) (codes "java/lang/IllegalMonitorStateException")
  ]

  dropped_is : (e : world.Ending) → Leads h.on (dropped_by e) (λ w. by_leaving e w (leaving w))
  unfolding by_leaving
  dropped_is e w q =
      ap (λ o. by_leaving e w (leave_if w (at.index + 1) o)) (monitor_seen at.linked.now f h.frames ∙ ap (option_map f) (sym monitor_is))

  -- it has none
  pub not_locked : m ≡ None → {e : world.Ending} {new : State H}
      → Does content at old (Ok Done) new (λ w n t. unwound_to w n t (drop 1 t.frames) e) → Does content at old (Ok Done) new (dropped_by e)
  unfolding by_leaving
  not_locked none {e = e} done = does_as h.on (λ w q. q) (λ w q.
      dropped_is e w q ∙ ap (λ o. by_leaving e w (leave_if w (at.index + 1) (option_map f o))) none) done

  -- the thread does not own it
  pub not_owned : {b : Bool} → OwnsIf b → b ≡ false → {e : world.Ending} {result : Result StepEnd Halt} {new : State H}
      → Does content at old result new (λ w n t. unwound_anew w w n t (drop 1 t.frames) (codes "java/lang/IllegalMonitorStateException"))
      → Does content at old result new (dropped_by e)
  unfolding by_leaving
  not_owned owns free {e = e} done =
      does_as h.on (λ w q. q) (λ w q. dropped_is e w q ∙ ap (by_leaving e w) (none_left (leaving w) (sym free ∙ owns w q))) done

  -- the world in which it was left
  abbrev to : World → World
  to w = left_in_world w (at.index + 1) (option_map f m)

  -- it does, and has left it
  module _ {b : Bool} (owns : OwnsIf b) (yes : b ≡ true) where
    left_to : (w : World) → Matches (parts_at content at old) w → leaving w ≡ Some (to w)
    left_to w q = was_left (leaving w) w (sym yes ∙ owns w q)

    there_left : (w : World) → Matches (parts_at content at old) w → slice_get (to w).threads at.index ≡ Some (model h.on)
    there_left w q = ap (λ ts. slice_get ts at.index) (threads_stay w (at.index + 1) (option_map f m)) ∙ thread_there h.on w q

    module _ (left : Bool) (mid : State H) (runs : StateRuns at.linked.now mid)
        (leaves : (w : World) → Matches (parts_at content at old) w → LeftAs left (leaving w) (parts_at content at mid) w) where
      matches_left : (w : World) → Matches (parts_at content at old) w → Matches (parts_at content at mid) (to w)
      matches_left w q = left_so left (leaving w) (to w) (parts_at content at mid) w (left_to w q) (leaves w q)

      pub frames_then : OnFrames content at mid
      frames_then = (seen_after h.on runs to (λ w. model h.on) matches_left there_left (λ w. refl) h.on.world h.on.beside.matches).here

      pub dropped_then : {new : State H} {e : world.Ending} → Does content at mid (Ok Done) new (λ w n t. unwound_to w n t (drop 1 t.frames) e)
          → Does content at old (Ok Done) new (dropped_by e)
      unfolding by_leaving
      dropped_then {e = e} dropped =
          then_does h.on runs to (λ w. model h.on) matches_left there_left (λ w q. dropped_is e w q ∙ ap (by_leaving e w) (left_to w q)) dropped
