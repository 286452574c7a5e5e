-- Threads that stand apart from places in code.
use Rattle.std.proofs.Common.{◌≡◌, ℕ, ◌<◌, List, [], ◌∷◌, Option, Some, None, true, false, refl, sym, ◌∙◌, subst, arith}
use Rattle.std.specs.Prelude.{option_map, slice_get}
use Rattle.jm_values.specs.Content.{Content}
use Rattle.jm_world.specs.Frames.{Frame, method_frame, initialization_frame, entry_frame}
use Rattle.jm_world.specs.Matches.{Matches}
use Rattle.jm_world.specs.World.{World, Thread, thread_at}
use Rattle.jm_heap.specs.declared.class_id.ClassId.{ClassId}
use Rattle.jm_linked.specs.Links.{LinkedView}
use Rattle.jm_state.specs.Parts.{parts}
use Rattle.jm_state.specs.Runnable.{IsRunnable}
use Rattle.jm_state.specs.View.{StateView}
use Rattle.jm_state.specs.declared.thread.StackFrame.{StackFrame}
use Rattle.jm_state.specs.declared.thread.StackFrame.TheVariants.{Method, Initialization, Entry}
use Rattle.jm_interp.specs.PlainRuns.{first_method, method_of, method_on_top}
use Rattle.jm_machine.specs.CodePlaces.{AreFree, Instruction, IsFreeIn, Stands, stands_at, top_stands_at}
use Rattle.jm_machine.specs.Readers.{frame_at}
use Rattle.jm_machine.specs.Threads.{frame_numbered}
use Rattle.jm_machine.specs.declared.code_place.CodePlace.{CodePlace}
use Rattle.jm_machine.proofs.Reading.{frame_read, frame_runs, no_frame}

-- what is free of the frame on top is free of the world's
pub free_on_top : (l : LinkedView) (c : Content ClassId) (v : StateView) (w : World) → Matches (parts l c v) w → IsRunnable l v
    → (places : List CodePlace) (n free : ℕ) → IsFreeIn places free (frame_numbered v.threads n 0) → AreFree l places free (top_stands_at w n)
free_on_top l c v w m runs places n free is = by (frame_numbered v.threads n 0) refl is
  where
    by : (o : Option StackFrame) → frame_numbered v.threads n 0 ≡ o → IsFreeIn places free o → AreFree l places free (top_stands_at w n)
    by None e is = subst (λ f. AreFree l places free (stands_at f)) (sym (no_frame l c v w m n 0 e)) is
    by (Some (Method f)) e is =
        subst (λ x. AreFree l places free (stands_at x)) (sym (frame_read l c v w m n 0 (Method f) e))
        (record { number = f.method; within = frame_runs l v runs n 0 (Method f) e; named = refl; until = is })
    by (Some (Initialization class stage)) e is =
        subst (λ x. AreFree l places free (stands_at x)) (sym (frame_read l c v w m n 0 (Initialization class stage) e)) is
    by (Some Entry) e is = subst (λ x. AreFree l places free (stands_at x)) (sym (frame_read l c v w m n 0 Entry e)) is

-- the method of the frame on top
method_here : (w : World) (n : ℕ) → method_on_top w n ≡ option_map (λ (i : Instruction). i.method) (top_stands_at w n)
method_here w n = by (thread_at w n)
  where
    of_frames : (fs : List Frame) → first_method fs ≡ option_map (λ (i : Instruction). i.method) (stands_at (slice_get fs 0))
    of_frames [] = refl
    of_frames (method_frame m a monitor ∷ below) = refl
    of_frames (initialization_frame class stage ∷ below) = refl
    of_frames (entry_frame ∷ below) = refl

    by : (o : Option Thread) → method_of o ≡ option_map (λ (i : Instruction). i.method) (stands_at (frame_at o 0))
    by None = refl
    by (Some t) = of_frames t.frames

module _ (l : LinkedView) (places : List CodePlace) where
  -- where steps are free, the first of them begins at no place, and where none is, it would
  pub stands_apart : (free : ℕ) (i : Option Instruction) → AreFree l places free i → 0 < free → Stands l places false i
  stands_apart free None are some = refl
  stands_apart free (Some i) are some = record { number = are.number; within = are.within; named = are.named; place = are.until.apart some }

  pub stands_there : (free : ℕ) (i : Option Instruction) → AreFree l places free i → free ≡ 0 → Stands l places true i
  stands_there free None are none = absurd (omega (arith, are, none))
  stands_there free (Some i) are none = record { number = are.number; within = are.within; named = are.named; place = are.until.here none }

  -- where more than one is free, none does that begins in the same method
  in_method : (free : ℕ) (i j : Option Instruction) → AreFree l places free i → 1 < free
      → option_map (λ (x : Instruction). x.method) j ≡ option_map (λ (x : Instruction). x.method) i → Stands l places false j
  in_method free i None are some same = refl
  in_method free None (Some j) are some same = cc
  in_method free (Some i) (Some j) are some same =
      let method : j.method ≡ i.method = cc in
      record { number = are.number; within = are.within; named = are.named ∙ sym method; place = are.until.nowhere some j.at }

  pub stays_apart : (free : ℕ) (w v : World) (n : ℕ) → AreFree l places free (top_stands_at w n) → 1 < free → method_on_top v n ≡ method_on_top w n
      → Stands l places false (top_stands_at v n)
  stays_apart free w v n are some same =
      in_method free (top_stands_at w n) (top_stands_at v n) are some (sym (method_here v n) ∙ same ∙ method_here w n)
