-- An exception that is made and left pending.
use Rattle.std.proofs.Common.{◌≡◌, ℕ, ◌+◌, ◌<◌, arith, List, [], ◌∷◌, ◌++◌, Option, Some, None, refl, sym, ap, ◌∙◌, subst, inl, inr, ◌⊎◌, length, reverse}
use Rattle.std.proofs.Common.{length-append}
use Rattle.std.specs.Prelude.{slice_get, slice_index_or, vec_len, map, option_map, Ok, Err}
use Rattle.std.proofs.lemmas.List.{length-map}
use Rattle.jm_values.specs.Rename.{stack_shape}
use Rattle.jm_values.specs.Shape.{Among}
use Rattle.jm_values.specs.Content.{Content, name_of, serial_at, object_at}
use Rattle.jm_world.specs.Matches.{Matches, as_named}
use Rattle.jm_world.specs.Next.{Next, goes, throw, exception}
use Rattle.jm_world.specs.Objects.{Object}
use Rattle.jm_values.specs.Reach.{Reach, field}
use Rattle.jm_values.specs.Objects.{refs_of}
use Rattle.jm_world.specs.Renaming.{rename_thread}
use Rattle.jm_world.specs.World as world
use Rattle.jm_world.specs.World.{World, Thread, roots, with_thread, refs_thread}
use Rattle.jm_heap.specs.declared.class_id.ClassId.{ClassId}
use Rattle.jm_linked.specs.Links.{LinkedView, class_name_of}
use Rattle.jm_state.specs.Ends.{Ended, MadeOrNot, with_object}
use Rattle.jm_state.specs.Parts.{parts, thread_part, ending_part}
use Rattle.jm_state.specs.Runnable.{StateRuns}
use Rattle.jm_state.specs.declared.halt.Halt.{Halt}
use Rattle.jm_state.specs.declared.halt.Halt.TheVariants.{Stopped, OutOfMemory}
use Rattle.jm_state.specs.declared.halt.StepEnd.TheVariants.{Done}
use Rattle.jm_state.specs.declared.state.State.{State}
use Rattle.jm_state.specs.declared.thread.Ending as code
use Rattle.jm_state.specs.declared.thread.Ending.TheVariants.{Running, Returned, EndedBy}
use Rattle.jm_state.specs.declared.thread.Thread as held
use Rattle.jm_interp.specs.declared.at.At.{At}
use Rattle.jm_interp.specs.At.{parts_at, Beside, OnThread, OnFrames, InMethod, Does}
use Rattle.jm_interp.specs.Standing.{ThreadRest, running, Stands, part_of}
use Rattle.jm_values.proofs.Lists.{get_map, get_there, got_within}
use Rattle.jm_values.proofs.SoundContents.{name_is}
use Rattle.jm_interp.proofs.OnThread.{model, thread_there, does, within, read, part_here, runs_with, held_object, held_frames, changed_among}
use Rattle.jm_interp.proofs.OnThread.{with_thread_changed, same_rest, with_thread_at}
use Rattle.jm_world.proofs.Changed as beside
use Rattle.jm_world.proofs.Changed.{IsShared, place_stands}
use Rattle.jm_interp.proofs.Threads.{object_or_held, part_refs, with_pending}

pub none_named : (f : ℕ → ℕ) (p : Option ℕ) → option_map f p ≡ None → p ≡ None
none_named f None e = refl
none_named f (Some k) e = cc

runs_named : (l : LinkedView) (e : code.Ending) → ending_part l.program e ≡ world.running → e ≡ Running
runs_named l Running h = refl
runs_named l Returned h = cc
runs_named l (EndedBy n) h = cc

get_last : (xs : List Object) (o : Object) → slice_get (xs ++ o ∷ []) (length xs) ≡ Some o
get_last [] o = refl
get_last (x ∷ xs) o = get_last xs o

-- the thread of a state as a world beside the state has it
pub record SeenAs {H : Type 0} (content : H → Content ClassId) (at : At) (s : State H) (x : Thread) : Type 0 where
  pub here : OnFrames content at s
  pub as_model : model here.on ≡ x

pub seen_as : {H : Type 0} {content : H → Content ClassId} {at : At} {s : State H} {w : World} → Beside content at.linked.now s w → (x : Thread)
    → slice_get w.threads at.index ≡ Some x → x.ending ≡ world.running → SeenAs content at s x
unfolding parts
seen_as {content = content} {at = at} {s = s} {w = w} beside x there live =
    let l = at.linked.now in
    let i = at.index in
    let m = beside.matches in
    let part = thread_part l in
    let f = name_of (content s.heap) in
    let long : length s.threads.items ≡ length w.threads =
    sym (length-map s.threads.items part) ∙ sym (length-map (map part s.threads.items) (rename_thread f)) ∙ ap length m.threads in
    let inside : i < length w.threads = got_within w.threads i x there in
    let t = get_there s.threads.items i (omega arith) in
    let seen_here : slice_get w.threads i ≡ Some (rename_thread f (part t.0)) =
    ap (λ xs. slice_get xs i) (sym m.threads)
    ∙ get_map (rename_thread f) (map part s.threads.items) i (part t.0) (get_map part s.threads.items i t.0 t.1) in
    let both : Some (rename_thread f (part t.0)) ≡ Some x = sym seen_here ∙ there in
    let seen : rename_thread f (part t.0) ≡ x = cc in
    let on : OnThread content at s (reverse t.0.frames.items) t.0.pending = record {
      world = w;
      beside = beside;
      object = record { place = t.0.object; serial = t.0.serial };
      stands = record {
        thread = t.0;
        at = t.1;
        stands = record {
          frames_are = refl;
          rest_is = λ j. record {
            object = record { place = t.0.object; serial = t.0.serial };
            pending = t.0.pending;
            ending = runs_named l t.0.ending (ap (λ (y : Thread). y.ending) seen ∙ live) j;
          };
        };
      };
    } in
    let again : Some (model on) ≡ Some x = sym (thread_there on w m) ∙ there in
    let is : model on ≡ x = cc in
    record { here = record { frames = reverse t.0.frames.items; pending = t.0.pending; on = on }; as_model = is }

-- the objects of a world that are reached, with a new one
unfoldable pub IsKnown : World → Object → ℕ → Type 0
IsKnown w o k = Reach (slice_get (with_object w o).heap) (roots (with_object w o)) k ⊎ (k ≡ length w.heap)

-- they are shared, where the new one refers to none
module _ {H : Type 0} (content : H → Content ClassId) (at : At) (new : State H) (w : World) (o : Object)
    (m : Matches (parts_at content at new) (with_object w o)) where
  pub known : ((j : ℕ) → Among j (stack_shape.refs o.values) → ⊥)
      → option_map (as_named (parts_at content at new).named) (object_at (content new.heap) (length w.heap)) ≡ Some o
      → IsShared (parts_at content at new) (with_object w o) (IsKnown w o)
  unfolding IsKnown parts
  known bare filled = record {
    bound = λ k q. elim q [ inl r ↦ m.bound k r | inr e ↦ let a = length-append w.heap (o ∷ []) in omega arith ];
    objects = λ k q. elim q [
      | inl r ↦ m.objects k r
      | inr e ↦ subst (λ j. option_map (as_named (parts_at content at new).named) (object_at (content new.heap) j) ≡ slice_get (w.heap ++ o ∷ []) j) (sym e)
          (filled ∙ sym (get_last w.heap o))
    ];
    closed = λ i j q a. elim q [
      | inl r ↦ inl (field i j r a)
      | inr e ↦ absurd (bare j (subst (λ x. Among j (refs_of x)) (ap (slice_get (w.heap ++ o ∷ [])) e ∙ get_last w.heap o) a))
    ];
    reached = λ k r. inl r;
  }

  -- a place of the new object stands for it
  pub new_stands : (q : ℕ) → serial_at (content new.heap) q ≡ Some (length w.heap) → beside.Stands (parts_at content at new) (IsKnown w o) q
  unfolding IsKnown parts
  new_stands q e = ((length w.heap, e), inr (name_is (content new.heap) q (length w.heap) e))

-- the new exception is pending
module _ {H : Type 0} {content : H → Content ClassId} {at : At} {mid : State H} (g : OnFrames content at mid) (place : ℕ) {d : held.Thread}
    (got : d ≡ slice_index_or mid.threads.items at.index d) where
  abbrev pub pending_at : held.Thread
  pending_at = record d { pending = Some place }

  pub stands_pending : Stands pending_at g.frames (running g.on.object (Some place))
  stands_pending =
      let s = read g.on got in record {
        frames_are = s.frames_are;
        rest_is = ap
            (λ (r : ThreadRest). record { object = r.object; pending = Some place; ending = r.ending }) s.rest_is;
      }

  pub pending_runs : StateRuns at.linked.now (with_thread_at mid at.index pending_at)
  pending_runs = runs_with g.on stands_pending (with_pending (part_here g.on))

  pub pending_matches : (w : World) (class : List ℕ) (m : Matches (parts_at content at mid) (with_object w (exception class))) → serial_at
      (content mid.heap) place ≡ Some (length w.heap) → option_map (as_named (parts_at content at mid).named)
      (object_at (content mid.heap) (length w.heap)) ≡ Some (exception class) → Matches (parts_at content at (with_thread_at mid at.index pending_at))
      (with_thread (with_object w (exception class)) (at.index + 1) (record (model g.on) { pending = Some (length w.heap) }))
  pending_matches w class m lies filled =
      let c = content mid.heap in
      let after = with_object w (exception class) in
      let shared = known content at mid w (exception class) m (λ j a. absurd a) filled in
      let x = rename_thread (name_of c) (part_of at.linked.now g.frames (running g.on.object (Some place))) in
      let named : name_of c place ≡ length w.heap = name_is c place (length w.heap) lies in
      let stand : (q : ℕ) → Among q (refs_thread (part_of at.linked.now g.frames (running g.on.object (Some place))))
      → beside.Stands (parts_at content at mid) (IsKnown w (exception class)) q =
      λ q a.
      elim (object_or_held at.linked.now g.frames (running g.on.object (Some place)) q a) [
        | inl b ↦ place_stands (parts_at content at mid) after m (IsKnown w (exception class)) shared q (held_object g.on q b)
        | inr b ↦ elim (part_refs at.linked.now g.frames (Some place) q b) [
          | inl d ↦ elim d [ inl e ↦ new_stands content at mid w (exception class) m q (ap (serial_at c) e ∙ lies) | inr z ↦ absurd z ]
          | inr d ↦ place_stands (parts_at content at mid) after m (IsKnown w (exception class)) shared q (held_frames g.on q d)
        ]
      ] in
      subst (λ k. Matches (parts_at content at (with_thread_at mid at.index pending_at)) (with_thread after (at.index + 1) (record (model g.on) {
        pending =
            Some k;
      }))) named
      (subst (Matches (parts_at content at (with_thread_at mid at.index pending_at))) (same_rest g.on after m g.frames (running g.on.object (Some place)))
      (changed_among g.on after m (IsKnown w (exception class)) shared (with_thread_at mid at.index pending_at)
      (with_thread_changed g.on pending_at) stands_pending refl stand))

-- an exception of the class has been made, or none
module _ {H : Type 0} {content : H → Content ClassId} {at : At} {old : State H} (mid : State H) (class : ℕ) (h : OnFrames content at old)
    (runs : StateRuns at.linked.now mid) where
  module _ (place : ℕ) (made : (w : World) → Matches (parts_at content at old) w
      → MadeOrNot (Ok place) (parts_at content at mid) w (exception (class_name_of at.linked.now.program class))) where
    -- the thread of the state in which it was made
    has_made : (w : World) → Matches (parts_at content at old) w → SeenAs content at mid (model h.on)
    has_made w m =
        seen_as (record { linked = h.on.beside.linked; runs = runs; matches = (made w m).1 }) (model h.on) (thread_there h.on w m) refl

    pub made_within : at.index < vec_len mid.threads
    made_within = within (has_made h.on.world h.on.beside.matches).here.on

    pub throws_made : {d : held.Thread} → d ≡ slice_index_or mid.threads.items at.index d → Does content at old (Ok Done)
        (with_thread_at mid at.index (record d { pending = Some place })) (λ w n t. throw w n t (class_name_of at.linked.now.program class))
    unfolding parts
    throws_made {d} got = does h.on (pending_runs (has_made h.on.world h.on.beside.matches).here place got) (λ w m.
        let o = exception (class_name_of at.linked.now.program class) in
        let k = made w m in
        let g = (has_made w m).here in
        let new = with_thread_at mid at.index (record d { pending = Some place }) in
        let same : model g.on ≡ model h.on = (has_made w m).as_model in
        let go : World → ℕ → Next = λ after n. goes (with_thread after (at.index + 1) (record (model h.on) { pending = Some n })) in
        subst (Ended (Ok Done) (parts_at content at new) w) (sym (k.0 go))
        (subst
        (λ (x : Thread). Matches (parts_at content at new) (with_thread (with_object w o) (at.index + 1) (record x { pending = Some (length w.heap) }))) same
        (pending_matches g place got w (class_name_of at.linked.now.program class) k.1 k.2 k.3)))

  pub throws_not : {halt : Halt} → ((w : World) → Matches (parts_at content at old) w
      → MadeOrNot (Err halt) (parts_at content at mid) w (exception (class_name_of at.linked.now.program class)))
      → Does content at old (Err halt) mid (λ w n t. throw w n t (class_name_of at.linked.now.program class))
  throws_not {halt = Stopped why} made = does h.on runs (λ w m.
      subst (Ended (Err (Stopped why)) (parts_at content at mid) w) (sym ((made w m).0 (λ after n. goes (with_thread after (at.index + 1) (record (model h.on) {
        pending =
            Some n;
      }))))) (refl, (made w m).1))
  throws_not {halt = OutOfMemory} made = does h.on runs (λ w m. made w m)

-- a thread that is in a method
pub in_frames : {H : Type 0} {content : H → Content ClassId} {at : At} {s : State H} → InMethod content at s → OnFrames content at s
in_frames h = record { frames = _; pending = None; on = h.on }
