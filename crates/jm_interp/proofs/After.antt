-- What one call does after another, and what a call that throws has done.
use Rattle.std.proofs.Common.{◌≡◌, ℕ, ◌+◌, ◌-◌, ◌^◌, List, [], ◌∷◌, Option, Some, None, Bool, true, false, drop, length}
use Rattle.std.proofs.Common.{refl, sym, ap, ◌∙◌, subst, arith}
use Rattle.std.specs.Prelude.{slice_get, slice_set, nat_lt, nat_le, Ok, Err}
use Rattle.jm_program.proofs.Sequences.{written_twice}
use Rattle.jm_values.specs.Content.{Content}
use Rattle.jm_values.proofs.Lists.{set_there}
use Rattle.jm_world.specs.Frames.{Frame}
use Rattle.jm_world.specs.Here.{with_frames}
use Rattle.jm_world.specs.Matches.{Parts, Matches}
use Rattle.jm_world.specs.Next.{Next, goes, stops, make, throw, exception}
use Rattle.jm_world.specs.Objects.{Object, size}
use Rattle.jm_world.specs.Throwing.{unwound, unwound_anew}
use Rattle.jm_world.specs.Types.{instance_of}
use Rattle.jm_world.specs.World as world
use Rattle.jm_world.specs.World.{World, Thread, reach_cells, with_thread, with_state, ended_by}
use Rattle.jm_world.specs.declared.class_state.ClassState.TheVariants.{Failed}
use Rattle.jm_world.specs.declared.stop.Stop.TheVariants.{HeapFull, SerialsEnd}
use Rattle.jm_heap.specs.declared.class_id.ClassId.{ClassId}
use Rattle.jm_state.specs.Ends.{Ended, with_object}
use Rattle.jm_state.specs.Runnable.{StateRuns}
use Rattle.jm_state.specs.declared.halt.Halt.{Halt}
use Rattle.jm_state.specs.declared.halt.Halt.TheVariants.{Stopped, OutOfMemory}
use Rattle.jm_state.specs.declared.halt.StepEnd.TheVariants.{Done}
use Rattle.jm_state.specs.declared.state.State.{State}
use Rattle.jm_state.specs.declared.thread.StackFrame.{StackFrame}
use Rattle.jm_interp.specs.declared.at.At.{At}
use Rattle.jm_interp.specs.At.{parts_at, OnThread, OnFrames, Does}
use Rattle.jm_interp.specs.Ending.{unwound_to}
use Rattle.jm_interp.proofs.OnThread.{Leads, model, thread_there, does}
use Rattle.jm_interp.proofs.Thrown.{SeenAs, seen_as}
use Rattle.jm_interp.proofs.Entered.{as_done}

-- after a call that leads from each world of the state to another, in which the thread is such a one
module _ {H : Type 0} {content : H → Content ClassId} {at : At} {old mid : State H} {fs : List StackFrame} {p : Option ℕ} (h : OnThread content at old fs p)
    (runs : StateRuns at.linked.now mid) (to : World → World) (x : World → Thread)
    (matches : (w : World) → Matches (parts_at content at old) w → Matches (parts_at content at mid) (to w))
    (there : (w : World) → Matches (parts_at content at old) w → slice_get (to w).threads at.index ≡ Some (x w)) where
  pub seen_after : (live : (w : World) → (x w).ending ≡ world.running) → (w : World) → Matches (parts_at content at old) w → SeenAs content at mid (x w)
  seen_after live w m = seen_as (record { linked = h.beside.linked; runs = runs; matches = matches w m }) (x w) (there w m) (live w)

  pub then_does : {new : State H} {rule second : World → ℕ → Thread → Next} → Leads h rule (λ w. second (to w) (at.index + 1) (x w))
      → Does content at mid (Ok Done) new second → Does content at old (Ok Done) new rule
  then_does {new} {rule} {second} is done = does h done.runs (λ w m.
      subst (Ended (Ok Done) (parts_at content at new) w) (sym (is w m))
      (as_done (parts_at content at new) (to w) w (second (to w) (at.index + 1) (x w)) (done.ends (to w) (x w) (matches w m) (there w m))))

-- making an object, by whether the limit and the numbers allow it
choose : World → Object → (World → ℕ → Next) → Bool → Bool → Next
choose w o go full ended = elim full as (λ _. Next) [
  | true ↦ stops HeapFull
  | false ↦ elim ended as (λ _. Next) [ true ↦ stops SerialsEnd | false ↦ go (with_object w o) (length w.heap) ]
]

pub record WasMade (new : Parts ClassId) (w : World) (o : Object) (go : World → ℕ → Next) : Type 0 where
  pub makes : (other : World → ℕ → Next) → make w o other ≡ other (with_object w o) (length w.heap)
  pub ends : Ended (Ok Done) new w (go (with_object w o) (length w.heap))

pub was_made : (new : Parts ClassId) (w : World) (o : Object) (go : World → ℕ → Next) → Ended (Ok Done) new w (make w o go) → WasMade new w o go
unfolding choose
was_made new w o go e = by (nat_lt w.limit (reach_cells w + size o)) refl (nat_le (2 ^ 63) (length w.heap)) refl e
  where
    by : (full : Bool) → nat_lt w.limit (reach_cells w + size o) ≡ full → (ended : Bool) → nat_le (2 ^ 63) (length w.heap) ≡ ended
        → Ended (Ok Done) new w (choose w o go full ended) → WasMade new w o go
    by true f ended n d = absurd d
    by false f true n d = absurd d
    by false f false n d = record {
      makes = λ other. ap (λ b. choose w o other b (nat_le (2 ^ 63) (length w.heap))) f ∙ ap (choose w o other false) n;
      ends = d;
    }

-- what has stopped before an object was made stops so whatever comes after
pub halts_alike : (new : Parts ClassId) (w : World) (o : Object) (to : World → ℕ → World) (other : World → ℕ → Next) (halt : Halt)
    → Ended (Err halt) new w (make w o (λ made k. goes (to made k))) → Ended (Err halt) new w (make w o other)
unfolding choose
halts_alike new w o to other OutOfMemory e = e
halts_alike new w o to other (Stopped why) e = by (nat_lt w.limit (reach_cells w + size o)) (nat_le (2 ^ 63) (length w.heap)) e
  where
    by : (full ended : Bool) → Ended (Err (Stopped why)) new w (choose w o (λ made k. goes (to made k)) full ended)
        → Ended (Err (Stopped why)) new w (choose w o other full ended)
    by true ended d = d
    by false true d = d
    by false false d = absurd d

-- a call that left a new exception pending
module _ {H : Type 0} {content : H → Content ClassId} {at : At} {old : State H} (h : OnFrames content at old) where
  abbrev pub with_new : Thread → ℕ → Thread
  with_new t k = record t { pending = Some k }

  abbrev pub thrown_in : World → ℕ → World
  thrown_in made k = with_thread made (at.index + 1) (with_new (model h.on) k)

  abbrev pub to_thrown : List ℕ → World → World
  to_thrown class w = thrown_in (with_object w (exception class)) (length w.heap)

  abbrev pub thread_in : World → Thread
  thread_in w = with_new (model h.on) (length w.heap)

module _ {H : Type 0} {content : H → Content ClassId} {at : At} {old mid : State H} (h : OnFrames content at old) (class : List ℕ) where
  module _ {name : List ℕ} (named : name ≡ class) (done : Does content at old (Ok Done) mid (λ w n t. throw w n t name)) where
    made_in : (w : World) → Matches (parts_at content at old) w → WasMade (parts_at content at mid) w (exception class) (λ made k. goes (thrown_in h made k))
    made_in w m =
        was_made (parts_at content at mid) w (exception class) (λ made k. goes (thrown_in h made k))
        (subst (λ c. Ended (Ok Done) (parts_at content at mid) w (throw w (at.index + 1) (model h.on) c)) named
        (done.ends w (model h.on) m (thread_there h.on w m)))

    matches_in : (w : World) → Matches (parts_at content at old) w → Matches (parts_at content at mid) (to_thrown h class w)
    matches_in w m = (made_in w m).ends

    there_in : (w : World) → Matches (parts_at content at old) w → slice_get (to_thrown h class w).threads at.index ≡ Some (thread_in h w)
    there_in w m =
        let n : at.index ≡ at.index + 1 - 1 = omega arith in
        subst (λ i. slice_get (slice_set w.threads i (thread_in h w)) at.index ≡ Some (thread_in h w)) n
        (set_there w.threads at.index (model h.on) (thread_in h w) (thread_there h.on w m))

    pub frames_after : OnFrames content at mid
    frames_after = (seen_after h.on done.runs (to_thrown h class) (thread_in h) matches_in there_in (λ w. refl) h.on.world h.on.beside.matches).here

    -- the top frame is dropped then
    pub thrown_below : {new : State H} → Does content at mid (Ok Done) new (λ w n t. goes (with_frames w n t (drop 1 t.frames)))
        → Does content at old (Ok Done) new (λ w n t. throw w n (record t { frames = drop 1 t.frames }) class)
    thrown_below dropped = then_does h.on done.runs (to_thrown h class) (thread_in h) matches_in there_in (λ w m.
        let below = drop 1 (model h.on).frames in
        (made_in w m).makes (λ made k. goes (with_thread made (at.index + 1) (record (model h.on) { frames = below; pending = Some k })))
        ∙ sym (ap (λ ts. goes (record (with_object w (exception class)) { threads = ts }))
        (written_twice w.threads (at.index + 1 - 1) (thread_in h w) (record (model h.on) { frames = below; pending = Some (length w.heap) })))) dropped

    -- or the class has failed, and the frame is dropped
    again : (w : World) (k : ℕ) (gs : List Frame) → unwound w (at.index + 1) (model h.on) gs k (instance_of class)
        ≡ unwound_to (thrown_in h w k) (at.index + 1) (with_new h (model h.on) k) gs (ended_by class)
    again w k [] = sym (ap (λ ts. goes (record w { threads = ts })) (written_twice w.threads (at.index + 1 - 1) (with_new h (model h.on) k)
        (record { object = (model h.on).object; frames = []; pending = None; ending = ended_by class })))
    again w k (g ∷ gs) = sym (ap (λ ts. goes (record w { threads = ts })) (written_twice w.threads (at.index + 1 - 1) (with_new h (model h.on) k)
        (record { object = (model h.on).object; frames = g ∷ gs; pending = Some k; ending = (model h.on).ending })))

    pub failed_anew : {new : State H} {failed : List ℕ} {ends : world.Ending} → ends ≡ ended_by class
        → Does content at mid (Ok Done) new (λ w n t. unwound_to (with_state w failed Failed) n t (drop 1 t.frames) ends)
        → Does content at old (Ok Done) new (λ w n t. unwound_anew w (with_state w failed Failed) n t (drop 1 t.frames) class)
    failed_anew {failed = failed} {ends = ends} is dropped = then_does h.on done.runs (to_thrown h class) (thread_in h) matches_in there_in (λ w m.
        let below = drop 1 (model h.on).frames in
        let after = record (with_state w failed Failed) { heap = (with_object w (exception class)).heap } in
        (made_in w m).makes
        (λ made k. unwound (record (with_state w failed Failed) { heap = made.heap }) (at.index + 1) (model h.on) below k (instance_of class))
        ∙ again after (length w.heap) below
        ∙ ap (unwound_to (with_state (to_thrown h class w) failed Failed) (at.index + 1) (thread_in h w) below) (sym is)) dropped

    -- or the top frame alone is dropped
    pub dropped_anew : {new : State H} {ends : world.Ending} → ends ≡ ended_by class
        → Does content at mid (Ok Done) new (λ w n t. unwound_to w n t (drop 1 t.frames) ends)
        → Does content at old (Ok Done) new (λ w n t. unwound_anew w w n t (drop 1 t.frames) class)
    dropped_anew {ends = ends} is dropped = then_does h.on done.runs (to_thrown h class) (thread_in h) matches_in there_in (λ w m.
        let below = drop 1 (model h.on).frames in
        (made_in w m).makes (λ made k. unwound (record w { heap = made.heap }) (at.index + 1) (model h.on) below k (instance_of class))
        ∙ again (with_object w (exception class)) (length w.heap) below
        ∙ ap (unwound_to (to_thrown h class w) (at.index + 1) (thread_in h w) below) (sym is)) dropped

  -- or could not be made
  module _ {name : List ℕ} (named : name ≡ class) {halt : Halt} (done : Does content at old (Err halt) mid (λ w n t. throw w n t name)) where
    pub not_thrown : {rule : World → ℕ → Thread → Next} (other : World → World → ℕ → Next) → Leads h.on rule (λ w. make w (exception class) (other w))
        → Does content at old (Err halt) mid rule
    not_thrown other is = does h.on done.runs (λ w m.
        subst (Ended (Err halt) (parts_at content at mid) w) (sym (is w m))
        (halts_alike (parts_at content at mid) w (exception class) (thrown_in h) (other w) halt
        (subst (λ c. Ended (Err halt) (parts_at content at mid) w (throw w (at.index + 1) (model h.on) c)) named
        (done.ends w (model h.on) m (thread_there h.on w m)))))

-- a call that marked a class as failed
module _ {H : Type 0} {content : H → Content ClassId} {at : At} {old mid : State H} (h : OnFrames content at old) {failed : List ℕ}
    (marked : Does content at old (Ok Done) mid (λ w n t. goes (with_state w failed Failed))) where
  abbrev with_failed : World → World
  with_failed w = with_state w failed Failed

  matches_failed : (w : World) → Matches (parts_at content at old) w → Matches (parts_at content at mid) (with_failed w)
  matches_failed w m = marked.ends w (model h.on) m (thread_there h.on w m)

  pub frames_failed : OnFrames content at mid
  frames_failed =
      (seen_after h.on marked.runs with_failed (λ w. model h.on) matches_failed (thread_there h.on) (λ w. refl) h.on.world h.on.beside.matches).here

  pub failed_below : {new : State H} {ends : world.Ending} → Does content at mid (Ok Done) new (λ w n t. unwound_to w n t (drop 1 t.frames) ends)
      → Does content at old (Ok Done) new (λ w n t. unwound_to (with_state w failed Failed) n t (drop 1 t.frames) ends)
  failed_below dropped = then_does h.on marked.runs with_failed (λ w. model h.on) matches_failed (thread_there h.on) (λ w m. refl) dropped
