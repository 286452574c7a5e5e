-- A method that is left: its result is handed on, and then its monitor is left; in the model the monitor is left first.
use Rattle.std.proofs.Common.{◌≡◌, ℕ, ◌+◌, List, [], ◌∷◌, ◌++◌, Option, Some, None, Bool, true, false, refl, sym, ap, ◌∙◌, subst, inl}
use Rattle.std.specs.Prelude.{map, option_map, is_some, nat_le, slice_index_or, Result, Ok, Err, codes}
use Rattle.jm_frames.specs.FrameView.{FrameView}
use Rattle.jm_values.specs.Activation.{units}
use Rattle.jm_values.specs.Content.{Content, name_of, serial_at}
use Rattle.jm_values.specs.Rename.{rename, refs_activation}
use Rattle.jm_values.specs.declared.fault.TagFault.TheVariants.{Overflow}
use Rattle.jm_values.specs.declared.value.Value.{Value}
use Rattle.jm_values.proofs.Among.{among_left, among_right}
use Rattle.jm_world.specs.Frames.{Frame, method_frame, initialization_frame, entry_frame, frames_shape, optional_number_shape}
use Rattle.jm_world.specs.Here.{with_frames, moved_on}
use Rattle.jm_world.specs.Matches.{Parts, Matches}
use Rattle.jm_world.specs.Monitors.{leave_if, left_in, monitor_in}
use Rattle.jm_world.specs.Next.{Next, goes, faults, throw}
use Rattle.jm_world.specs.Returns.{returned_to, with_result}
use Rattle.jm_world.specs.Stepping.{step_thread}
use Rattle.jm_world.specs.World.{World, Thread, Monitor, with_thread, returned}
use Rattle.jm_heap.specs.declared.class_id.ClassId.{ClassId}
use Rattle.jm_state.specs.Ends.{Ended}
use Rattle.jm_state.specs.Parts.{parts, frame_part}
use Rattle.jm_state.specs.Runnable.{StateRuns}
use Rattle.jm_state.specs.declared.halt.Halt.{Halt}
use Rattle.jm_state.specs.declared.halt.Halt.TheVariants.{Stopped, OutOfMemory}
use Rattle.jm_state.specs.declared.halt.StepEnd.{StepEnd}
use Rattle.jm_state.specs.declared.halt.StepEnd.TheVariants.{Done}
use Rattle.jm_state.specs.declared.state.State.{State}
use Rattle.jm_state.specs.declared.thread.Thread as held
use Rattle.jm_interp.specs.declared.at.At.{At}
use Rattle.jm_interp.specs.At.{parts_at, HoldsAll, InMethod, Does, Steps, in_method}
use Rattle.jm_interp.specs.Locking.{BesideAny, LiesIf, LeftAs}
use Rattle.jm_interp.specs.Returned.{HandsOn}
use Rattle.jm_interp.specs.Standing.{InAnyMethod}
use Rattle.jm_interp.proofs.OnThread.{Leads, lower, model, thread_there, read, does, does_as, held_frames}

-- a thread has changed, or a result did not fit
abbrev moves : ℕ → Option Thread → World → Next
moves number None w = faults Overflow
moves number (Some y) w = goes (with_thread w number y)

-- what a return hands on changes the thread alone, whatever the rest of the world
record Moves (number : ℕ) (go : World → Next) : Type 0 where
  thread : Option Thread
  is : (w : World) → go w ≡ moves number thread w

returned_moves : (number : ℕ) (t : Thread) (x : Option Value) (below : List Frame) → Moves number (λ w. returned_to w number t x below)
returned_moves number t x [] =
    record { thread = Some (record { object = t.object; frames = []; pending = None; ending = returned }); is = λ w. refl }
returned_moves number t x (method_frame m a monitor ∷ below) = by (nat_le (units (with_result x a.stack)) a.max_stack)
  where
    by : (b : Bool) → Moves number (λ w. elim b as (λ _. Next) [
      | true ↦ goes (with_frames w number t (method_frame m (moved_on a (with_result x a.stack)) monitor ∷ below))
      | false ↦ faults Overflow
    ])
    by true =
        record { thread = Some (record t { frames = method_frame m (moved_on a (with_result x a.stack)) monitor ∷ below }); is = λ w. refl }
    by false = record { thread = None; is = λ w. refl }
returned_moves number t x (initialization_frame class stage ∷ below) =
    record { thread = Some (record t { frames = initialization_frame class stage ∷ below }); is = λ w. refl }
returned_moves number t x (entry_frame ∷ below) = record { thread = Some (record t { frames = entry_frame ∷ below }); is = λ w. refl }

-- a monitor is left alike whatever a thread is
leave_moved : (w : World) (number : ℕ) (y : Thread) (m : Option ℕ)
    → leave_if (with_thread w number y) number m ≡ option_map (λ (u : World). with_thread u number y) (leave_if w number m)
leave_moved w number y None = refl
leave_moved w number y (Some k) = by (left_in w.monitors number k (monitor_in w.monitors k))
  where
    by : (o : Option (List Monitor))
        → (elim o as (λ _. Option World) [ None ↦ None | Some ms ↦ Some (record (with_thread w number y) { monitors = ms }) ])
        ≡ option_map (λ (u : World). with_thread u number y) (elim o as (λ _. Option World) [ None ↦ None | Some ms ↦ Some (record w { monitors = ms }) ])
    by None = refl
    by (Some ms) = refl

-- it was left, if the thread owns it
pub none_left : (o : Option World) → false ≡ is_some o → o ≡ None
none_left None e = refl
none_left (Some u) e = cc

pub some_left : (o : Option World) → true ≡ is_some o → (u : World) × (o ≡ Some u)
some_left None e = cc
some_left (Some u) e = (u, refl)

pub left_so : (b : Bool) (o : Option World) (u : World) (new : Parts ClassId) (w : World) → o ≡ Some u → LeftAs b o new w → Matches new u
left_so true (Some v) u new w e left = let same : v ≡ u = cc in subst (Matches new) same left
left_so true None u new w e left = cc
left_so false (Some v) u new w e left = absurd left
left_so false None u new w e left = cc

-- a step that stops does so whatever the world
halts_so : (new : Parts ClassId) (w u : World) (number : ℕ) (y : Option Thread) (halt : Halt) → Ended (Err halt) new w (moves number y w)
    → Ended (Err halt) new w (moves number y u)
halts_so new w u number y OutOfMemory e = e
halts_so new w u number None (Stopped why) e = e
halts_so new w u number (Some y) (Stopped why) e = absurd e

-- a place that a frame holds lies in the heap
module _ {H : Type 0} (content : H → Content ClassId) (at : At) (old : State H) (w : World) (m : Matches (parts_at content at old) w) where
  pub lies_if : (o : Option ℕ) → HoldsAll content at old (optional_number_shape.refs o) → LiesIf content old o
  unfolding parts
  lies_if None held = tt
  lies_if (Some p) held = m.resident p (held p (inl refl))

lies_still : {H : Type 0} (content : H → Content ClassId) (old new : State H) → new.heap ≡ old.heap → (o : Option ℕ) → LiesIf content old o
    → LiesIf content new o
lies_still content old new same None lies = tt
lies_still content old new same (Some p) lies = subst (λ z. (k : ℕ) × (serial_at (content z) p ≡ Some k)) (sym same) lies

module _ {H : Type 0} {content : H → Content ClassId} {at : At} {old : State H} (h : InMethod content at old) where
  -- the monitor of the frame that was read
  pub monitor_here : {d : held.Thread} {v : FrameView} {m : Option ℕ} → d ≡ slice_index_or old.threads.items at.index d → InAnyMethod d (λ f below r. v ≡ f)
      → m ≡ v.monitor → m ≡ h.frame.monitor
  monitor_here got top is = is ∙ ap (λ (f : FrameView). f.monitor) (top h.frame h.below _ (read h.on got))

  frame_held : HoldsAll content at old (optional_number_shape.refs h.frame.monitor)
  frame_held q a =
      let v = h.frame in
      held_frames h.on q
      (among_left q (refs_activation v.activation ++ optional_number_shape.refs v.monitor) (frames_shape.refs (map (frame_part at.linked.now) h.below))
      (among_right q (refs_activation v.activation) (optional_number_shape.refs v.monitor) a))

  module _ {m : Option ℕ} (monitor_is : m ≡ h.frame.monitor) where
    pub monitor_lies : LiesIf content old m
    monitor_lies = lies_if content at old h.on.world h.on.beside.matches m
        (subst (λ o. HoldsAll content at old (optional_number_shape.refs o)) (sym monitor_is) frame_held)

    abbrev f : ℕ → ℕ
    f = name_of (content old.heap)

    abbrev leaving : World → Option World
    leaving w = leave_if w (at.index + 1) (option_map f m)

    -- whether the thread owns it, beside every world
    abbrev OwnsIf : Bool → Type 0
    OwnsIf b = (w : World) → Matches (parts_at content at old) w → b ≡ is_some (leaving w)

    module _ {x : Option Value} (hands : HandsOn content at old x) where
      abbrev v : Option Value
      v = option_map (rename f) x

      abbrev handing : World → Next
      handing w = returned_to w (at.index + 1) (model h.on) v (lower h.on h.below)

      by_leaving : World → Option World → Next
      by_leaving w o = elim o as (λ _. Next) [
        | None ↦ throw w (at.index + 1) (model h.on) (codes "java/lang/IllegalMonitorStateException")
        | Some u ↦ handing u
      ]

      return_is : Leads h.on step_thread (λ w. by_leaving w (leaving w))
      unfolding by_leaving
      return_is w q =
          hands.step w (model h.on) q (thread_there h.on w q)
          ∙ ap (λ k. by_leaving w (leave_if w (at.index + 1) (option_map f k))) (sym monitor_is)

      pub not_owned : {b : Bool} → OwnsIf b → b ≡ false → {name : List ℕ} → name ≡ codes "java/lang/IllegalMonitorStateException"
          → {result : Result StepEnd Halt} {new : State H} → Does content at old result new (λ w n t. throw w n t name) → Steps content at old result new
      unfolding by_leaving
      not_owned owns free named done = does_as h.on (λ w q. q) (λ w q.
          return_is w q
          ∙ ap (by_leaving w) (none_left (leaving w) (sym free ∙ owns w q))
          ∙ ap (throw w (at.index + 1) (model h.on)) (sym named)) done

      -- it has none
      pub not_locked : m ≡ None → {result : Result StepEnd Halt} {new : State H}
          → Does content at old result new (in_method (λ here. returned_to here.world here.number here.thread v here.below)) → Steps content at old result new
      unfolding by_leaving
      not_locked none done = does_as h.on (λ w q. q) (λ w q.
          return_is w q ∙ ap (λ o. by_leaving w (leave_if w (at.index + 1) (option_map f o))) none) done

      moved : Moves (at.index + 1) handing
      moved = returned_moves (at.index + 1) (model h.on) v (lower h.on h.below)

      module _ {b : Bool} (owns : OwnsIf b) (yes : b ≡ true) where
        left_of : (w : World) → Matches (parts_at content at old) w → (u : World) × (leaving w ≡ Some u)
        left_of w q = some_left (leaving w) (sym yes ∙ owns w q)

        step_is : (w : World) (q : Matches (parts_at content at old) w)
            → step_thread w (at.index + 1) (model h.on) ≡ moves (at.index + 1) moved.thread (left_of w q).0
        unfolding by_leaving
        step_is w q = return_is w q ∙ ap (by_leaving w) (left_of w q).1 ∙ moved.is (left_of w q).0

        abbrev HandedOn : Result StepEnd Halt → State H → Type 0
        HandedOn result new = Does content at old result new (in_method (λ here. returned_to here.world here.number here.thread v here.below))

        handed_so : {result : Result StepEnd Halt} {new : State H} → HandedOn result new → (w : World) → Matches (parts_at content at old) w
            → Ended result (parts_at content at new) w (moves (at.index + 1) moved.thread w)
        handed_so {result} {new} done w q =
            subst (Ended result (parts_at content at new) w) (moved.is w) (done.ends w (model h.on) q (thread_there h.on w q))

        -- it was not handed on
        pub not_handed : {halt : Halt} {new : State H} → HandedOn (Err halt) new → Steps content at old (Err halt) new
        not_handed {halt} {new} done = does h.on done.runs (λ w q.
            subst (Ended (Err halt) (parts_at content at new) w) (sym (step_is w q))
            (halts_so (parts_at content at new) w (left_of w q).0 (at.index + 1) moved.thread halt (handed_so done w q)))

        module _ {mid : State H} (done : HandedOn (Ok Done) mid) (same : mid.heap ≡ old.heap) where
          record WasHanded (w : World) : Type 0 where
            thread : Thread
            is : moved.thread ≡ Some thread
            matches : Matches (parts_at content at mid) (with_thread w (at.index + 1) thread)

          was_handed : (w : World) → Matches (parts_at content at old) w → WasHanded w
          was_handed w q = by moved.thread refl (handed_so done w q)
            where
              by : (o : Option Thread) → moved.thread ≡ o → Ended (Ok Done) (parts_at content at mid) w (moves (at.index + 1) o w) → WasHanded w
              by None e d = absurd d
              by (Some y) e d = record { thread = y; is = e; matches = d }

          pub beside_handed : BesideAny content at.linked.now mid
          beside_handed =
              let k = was_handed h.on.world h.on.beside.matches in
              record { world = _; beside = record { linked = h.on.beside.linked; runs = done.runs; matches = k.matches } }

          pub lies_handed : LiesIf content mid m
          lies_handed = lies_still content old mid same m monitor_lies

          -- and the monitor was left then
          pub left_then : (left : Bool) {new : State H} → StateRuns at.linked.now new → ((w : World) → Matches (parts_at content at mid) w
              → LeftAs left (leave_if w (at.index + 1) (option_map (name_of (content mid.heap)) m)) (parts_at content at new) w)
              → Steps content at old (Ok Done) new
          left_then left {new} runs leaves = does h.on runs (λ w q.
              let k = was_handed w q in
              let o = left_of w q in
              let to : World → World = λ u. with_thread u (at.index + 1) k.thread in
              let here = subst (λ z. LeftAs left (leave_if (to w) (at.index + 1) (option_map (name_of (content z)) m)) (parts_at content at new) (to w)) same
              (leaves (to w) k.matches) in
              let both : leave_if (to w) (at.index + 1) (option_map f m) ≡ Some (to o.0) =
              leave_moved w (at.index + 1) k.thread (option_map f m) ∙ ap (option_map to) o.1 in
              subst (Ended (Ok Done) (parts_at content at new) w) (sym (step_is w q ∙ ap (λ z. moves (at.index + 1) z o.0) k.is))
              (left_so left _ (to o.0) (parts_at content at new) (to w) both here))
