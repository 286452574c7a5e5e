-- The parts that a state stands for have its places, and where others are put into the state, they
-- are put into its parts.
use Rattle.std.proofs.Common.{◌≡◌, ℕ, ◌∷◌, ◌++◌, List, [], Option, length, drop, refl, sym, ap, ◌∙◌, arith}
use Rattle.std.specs.Prelude.{map}
use Rattle.jm_values.specs.Shape.{list_shape, pair_shape}
use Rattle.jm_values.proofs.Alike.{Alike, both, pair_alike, list_alike, same_alike}
use Rattle.jm_values.specs.Rename.{value_shape, stack_shape}
use Rattle.jm_values.specs.declared.value.Value.{Value}
use Rattle.jm_values.specs.Content.{Content}
use Rattle.jm_world.specs.Frames.{Frame, frame_shape, number_shape, optional_number_shape}
use Rattle.jm_world.specs.World as world
use Rattle.jm_world.specs.World.{held_shape}
use Rattle.jm_world.specs.Loading.{first_statics, literal_texts}
use Rattle.jm_world.specs.Matches.{places}
use Rattle.jm_world.specs.Renaming.{thread_shape, static_shape, monitor_shape, literal_shape}
use Rattle.jm_world.proofs.PlacesOfParts.{Held, held_of, parts_shape, places_held}
use Rattle.jm_heap.specs.declared.class_id.ClassId.{ClassId}
use Rattle.jm_linked.specs.Links.{LinkedView}
use Rattle.jm_linked.specs.Named.{named_statics, named_literals}
use Rattle.jm_state.specs.Parts.{frame_part, ending_part, part_of_held, thread_part, monitor_part, parts}
use Rattle.jm_state.specs.Places.{stack_frame_shape, HeldThread, held_thread, held_thread_shape, Holders, holders, holders_shape, places_of}
use Rattle.jm_state.specs.Runnable.{IsRunnable}
use Rattle.jm_state.specs.View.{StateView}
use Rattle.jm_monitors.specs.HeldMonitors.{HeldMonitor, held_shape as held_monitor_shape}
use Rattle.jm_state.specs.declared.thread.Ending.{Ending}
use Rattle.jm_state.specs.declared.thread.Ending.TheVariants.{Running, Returned, EndedBy}
use Rattle.jm_state.specs.declared.thread.StackFrame.{StackFrame}
use Rattle.jm_state.specs.declared.thread.StackFrame.TheVariants.{Method, Initialization, Entry}
use Rattle.jm_state.specs.declared.thread.Thread.{Thread}

frame_alike : (l : LinkedView) (x : StackFrame) → Alike stack_frame_shape frame_shape (frame_part l) x
frame_alike l (Method f) = record { refs = refl; refill = λ ns. refl }
frame_alike l (Initialization class stage) = record { refs = refl; refill = λ ns. refl }
frame_alike l Entry = record { refs = refl; refill = λ ns. refl }

-- a pending exception and frames
held_alike : (l : LinkedView) (p : Option ℕ) (fs : List StackFrame)
    → Alike (pair_shape optional_number_shape (list_shape stack_frame_shape)) held_shape (λ x. (x.0, map (frame_part l) x.1)) (p, fs)
held_alike l p fs = pair_alike (same_alike optional_number_shape p) (list_alike (frame_alike l) fs)

thread_alike : (l : LinkedView) (t : HeldThread) → Alike held_thread_shape thread_shape (part_of_held l) t
thread_alike l t = by t.object t.serial t.frames t.pending t.ending
  where
    with_held : Option ℕ → Ending → Option ℕ × List Frame → world.Thread
    with_held n e x = record { object = n; frames = x.1; pending = x.0; ending = ending_part l.program e }

    running_with : Option ℕ × (Option ℕ × List Frame) → world.Thread
    running_with x = record { object = x.0; frames = x.1.1; pending = x.1.0; ending = world.running }

    by : (o n : Option ℕ) (fs : List StackFrame) (p : Option ℕ) (e : Ending)
        → Alike held_thread_shape thread_shape (part_of_held l) (record { object = o; serial = n; frames = fs; pending = p; ending = e })
    by o n fs p Running =
        let a = pair_alike (same_alike optional_number_shape o) (held_alike l p fs) in
        record { refs = a.refs; refill = λ ns. ap running_with (a.refill ns) }
    by o n fs p Returned = let a = held_alike l p fs in record { refs = a.refs; refill = λ ns. ap (with_held n Returned) (a.refill ns) }
    by o n fs p (EndedBy c) = let a = held_alike l p fs in record { refs = a.refs; refill = λ ns. ap (with_held n (EndedBy c)) (a.refill ns) }

statics_refs : (ss : List world.Static) (vs : List Value) → length vs ≡ length ss → (list_shape static_shape).refs (named_statics ss vs) ≡ stack_shape.refs vs
statics_refs [] [] e = refl
statics_refs [] (v ∷ vs) e = absurd (omega arith)
statics_refs (s ∷ ss) [] e = absurd (omega arith)
statics_refs (s ∷ ss) (v ∷ vs) e = ap (λ l. value_shape.refs v ++ l) (statics_refs ss vs (omega arith))

statics_refill : (ss : List world.Static) (ns : List ℕ) (vs : List Value)
    → named_statics ss (stack_shape.refill ns vs) ≡ (list_shape static_shape).refill ns (named_statics ss vs)
statics_refill [] ns vs = refl
statics_refill (s ∷ ss) ns [] = refl
statics_refill (s ∷ ss) ns (v ∷ vs) =
    ap (λ l. record { field = s.field; value = value_shape.refill ns v } ∷ l) (statics_refill ss (drop (length (value_shape.refs v)) ns) vs)

statics_alike : (ss : List world.Static) (vs : List Value) → length vs ≡ length ss → Alike stack_shape (list_shape static_shape) (named_statics ss) vs
statics_alike ss vs e = record { refs = statics_refs ss vs e; refill = λ ns. statics_refill ss ns vs }

literals_refs : (ts : List (List ℕ)) (ps : List ℕ) → length ps ≡ length ts
    → (list_shape literal_shape).refs (named_literals ts ps) ≡ (list_shape number_shape).refs ps
literals_refs [] [] e = refl
literals_refs [] (p ∷ ps) e = absurd (omega arith)
literals_refs (t ∷ ts) [] e = absurd (omega arith)
literals_refs (t ∷ ts) (p ∷ ps) e = ap (λ l. p ∷ l) (literals_refs ts ps (omega arith))

literals_refill : (ts : List (List ℕ)) (ns ps : List ℕ)
    → named_literals ts ((list_shape number_shape).refill ns ps) ≡ (list_shape literal_shape).refill ns (named_literals ts ps)
literals_refill [] ns ps = refl
literals_refill (t ∷ ts) ns [] = refl
literals_refill (t ∷ ts) ns (p ∷ ps) = ap (λ l. record { units = t; string = number_shape.refill ns p } ∷ l) (literals_refill ts (drop 1 ns) ps)

literals_alike : (ts : List (List ℕ)) (ps : List ℕ) → length ps ≡ length ts → Alike (list_shape number_shape) (list_shape literal_shape) (named_literals ts) ps
literals_alike ts ps e = record { refs = literals_refs ts ps e; refill = λ ns. literals_refill ts ns ps }

monitor_alike : (m : HeldMonitor) → Alike held_monitor_shape monitor_shape monitor_part m
monitor_alike m = record { refs = refl; refill = λ ns. refl }

pub threads_seen : (l : LinkedView) (ts : List Thread) → map (thread_part l) ts ≡ map (part_of_held l) (map held_thread ts)
threads_seen l [] = refl
threads_seen l (t ∷ ts) = ap (λ us. thread_part l t ∷ us) (threads_seen l ts)

abbrev seen : LinkedView → Holders → Held
seen l h =
    (map (part_of_held l) h.0, (named_statics (first_statics l.program) h.1.0, (map monitor_part h.1.1.0, named_literals (literal_texts l.program) h.1.1.1)))

held_seen : (l : LinkedView) (c : Content ClassId) (s : StateView) → held_of (parts l c s) ≡ seen l (holders s)
unfolding parts
held_seen l c s = ap (λ ts. both ts ((seen l (holders s)).1)) (threads_seen l s.threads)

seen_alike : (l : LinkedView) (s : StateView) → IsRunnable l s → Alike holders_shape parts_shape (seen l) (holders s)
seen_alike l s n =
    pair_alike (list_alike (thread_alike l) (map held_thread s.threads))
    (pair_alike (statics_alike (first_statics l.program) s.statics n.statics)
    (pair_alike (list_alike monitor_alike s.monitors) (literals_alike (literal_texts l.program) s.literals n.literals)))

-- the places of the parts are those that are gathered
pub places_are : (l : LinkedView) (c : Content ClassId) (s : StateView) → IsRunnable l s → places (parts l c s) ≡ places_of s
unfolding places_of
places_are l c s n = places_held (parts l c s) ∙ ap parts_shape.refs (held_seen l c s) ∙ (seen_alike l s n).refs

-- places put into the state are put into the parts
pub held_put : (l : LinkedView) (c d : Content ClassId) (s t : StateView) (ns : List ℕ) → IsRunnable l s → holders t ≡ holders_shape.refill ns (holders s)
    → held_of (parts l d t) ≡ parts_shape.refill ns (held_of (parts l c s))
held_put l c d s t ns n e =
    held_seen l d t ∙ ap (seen l) e ∙ (seen_alike l s n).refill ns ∙ ap (parts_shape.refill ns) (sym (held_seen l c s))
