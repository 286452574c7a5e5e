-- A world from a load is well formed, and stays so.
use Rattle.std.proofs.Common.{◌≡◌, ℕ, ◌+◌, ◌<◌, ◌≤◌, List, [], ◌∷◌, ◌++◌, Option, Some, None, refl, sym, subst, inl, inr, ◌⊎◌, length, arith, pos}
use Rattle.std.specs.Prelude.{map, slice_get}
use Rattle.std.specs.List.{AllByRecursion, filter, flat_map}
use Rattle.jm_program.specs.Flags.{is_static}
use Rattle.jm_program.specs.declared.class.ClassParts.{ClassParts}
use Rattle.jm_program.specs.declared.code.Code.{Code}
use Rattle.jm_values.specs.Shape.{Among}
use Rattle.jm_values.specs.Rename.{refs_activation}
use Rattle.jm_values.specs.declared.value.Value.TheVariants.{Int, Ref}
use Rattle.jm_values.specs.Objects.{refs_of}
use Rattle.jm_world.specs.Types.{default_value}
use Rattle.jm_world.specs.Classes.{FoundMethod, name_of_method}
use Rattle.jm_world.specs.Objects.{Object, FieldName, field_names}
use Rattle.jm_world.specs.Frames.{Frame, method_frame, initialization_frame, entry_frame, frames_shape, optional_number_shape, refs_frame}
use Rattle.jm_world.specs.World.{World, Thread, Static, Monitor, Literal, Ending, running, returned, ended_by, roots, refs_thread, refs_static, refs_monitor, refs_literal, object_refs, held_shape}
use Rattle.jm_world.specs.Loading.{literal_texts, objects_from, literals_from, first_objects, statics_of_class, first_frames, first_thread, main_in, loaded_world}
use Rattle.jm_world.specs.Run.{after, run_from}
use Rattle.jm_world.specs.Reaching.{IsBounded}
use Rattle.jm_world.specs.WellFormed.{ValueBelow, ValuesBelow, NumberBelow, FrameBelow, FramesBelow, ThreadFits, MonitorFits, IsWellFormed, RunsAreWellFormed}
use Rattle.jm_world.specs.declared.event.Event.{Event}
use Rattle.jm_world.proofs.Fitting.{among_value, among_values, among_activation}
use Rattle.jm_values.proofs.Reaching.{reach_within}
use Rattle.jm_values.proofs.Lists.{each_at, each_of_both}
use Rattle.jm_values.proofs.Among.{among_split}
use Rattle.jm_world.specs.SideBySide.{Lists, none, more, Frames, methods, neither}
use Rattle.jm_world.specs.SideBySide as beside
use Rattle.jm_world.proofs.WordsSideBySide.{defaults}
use Rattle.jm_world.proofs.RowsSideBySide.{called_alike}
use Rattle.jm_world.proofs.KeepingForm.{Own, value_from, frame_from, events_keep_form}

-- the first objects
ints_below : (n : ℕ) (units : List ℕ) → ValuesBelow n (map (λ u. Int (pos u)) units)
ints_below n [] = tt
ints_below n (u ∷ us) = (tt, ints_below n us)

objects_length : (k : ℕ) (ts : List (List ℕ)) → length (objects_from k ts) ≡ length ts + length ts
objects_length k [] = refl
objects_length k (t ∷ ts) = omega (arith, objects_length (k + 2) ts)

objects_below : (n k : ℕ) (ts : List (List ℕ)) → k + (length ts + length ts) ≤ n → AllByRecursion (λ o. ValuesBelow n o.values) (objects_from k ts)
objects_below n k [] l = tt
objects_below n k (t ∷ ts) l = (ints_below n t, ((omega (arith, l), tt), objects_below n (k + 2) ts (omega (arith, l))))

literals_below : (n k : ℕ) (ts : List (List ℕ)) → k + (length ts + length ts) ≤ n → AllByRecursion (λ l. l.string < n) (literals_from k ts)
literals_below n k [] l = tt
literals_below n k (t ∷ ts) l = (omega (arith, l), literals_below n (k + 2) ts (omega (arith, l)))

defaults_below : (n : ℕ) (fs : List FieldName) → AllByRecursion {X = Static} (λ s. ValueBelow n s.value) (map (λ f. record { field = f; value = default_value f.type }) fs)
defaults_below n [] = tt
defaults_below n (f ∷ fs) = (value_from (Own n) n (λ k j r. r.1) _ _ (defaults f.type), defaults_below n fs)

statics_below : (n : ℕ) (cs : List ClassParts) → AllByRecursion (λ s. ValueBelow n s.value) (flat_map statics_of_class cs)
statics_below n [] = tt
statics_below n (c ∷ cs) = each_of_both (λ s. ValueBelow n s.value) (statics_of_class c) (flat_map statics_of_class cs) (defaults_below n (field_names c (filter (λ f. is_static f.flags) c.fields))) (statics_below n cs)

-- the first thread
frames_below : (n : ℕ) (found : FoundMethod) → 2 ≤ n → FramesBelow n (first_frames found)
frames_below n found l = by found.method.code
  where
    by : (o : Option Code) → FramesBelow n (first_frames (record { class = found.class; method = record found.method { code = o } }))
    by None = tt
    by (Some code) = (tt, (frame_from (Own n) n (λ k j r. r.1) _ _ (methods {m = name_of_method found} (called_alike code (Ref 1 ∷ []) (Ref 1 ∷ []) (more (beside.refs (refl, omega (arith, l))) none)) neither), tt))

thread_fits : (n : ℕ) (found : Option FoundMethod) → 2 ≤ n → ThreadFits n (first_thread found)
thread_fits n None l = record { object = tt; pending = tt; frames = tt; ended = λ e. cc }
thread_fits n (Some found) l = record { object = tt; pending = tt; frames = frames_below n found l; ended = λ e. cc }

load_fits : (program : List ClassParts) (limit : ℕ) → IsWellFormed (loaded_world program limit)
unfolding loaded_world
load_fits program limit = record {
  objects = (tt, (tt, objects_below n 2 texts room));
  literals = literals_below n 2 texts room;
  statics = (omega (arith, room), statics_below n program);
  monitors = tt;
  once = tt;
  threads = (thread_fits n (main_in program) (omega (arith, room)), tt);
}
  where
    texts : List (List ℕ)
    texts = literal_texts program

    n : ℕ
    n = length (first_objects program)

    room : 2 + (length (literal_texts program) + length (literal_texts program)) ≤ length (first_objects program)
    room = omega (arith, objects_length 2 (literal_texts program))

run_fits : (w : World) (es : List Event) → IsWellFormed w → IsWellFormed (run_from w es)
run_fits w [] f = f
run_fits w (e ∷ es) f = run_fits (after w e).world es (events_keep_form w e f)

-- what a well-formed world reaches has objects
among_all : {A : Type 0} (P : A → Type 0) (refs : A → List ℕ) (n : ℕ) → ((x : A) → P x → (k : ℕ) → Among k (refs x) → k < n) → (xs : List A) → AllByRecursion P xs → (k : ℕ) → Among k (flat_map refs xs) → k < n
among_all P refs n f [] a k m = absurd m
among_all P refs n f (x ∷ xs) a k m = by (among_split k (refs x) (flat_map refs xs) m) (among_all P refs n f xs a.1 k)
  where
    by : Among k (refs x) ⊎ Among k (flat_map refs xs) → (Among k (flat_map refs xs) → k < n) → k < n
    by (inl c) ih = f x a.0 k c
    by (inr c) ih = ih c

among_number : (n k : ℕ) (o : Option ℕ) → NumberBelow n o → Among k (optional_number_shape.refs o) → k < n
among_number n k None b m = absurd m
among_number n k (Some j) b (inl e) = subst (λ i. i < n) (sym e) b
among_number n k (Some j) b (inr m) = absurd m

among_frame : (n : ℕ) (f : Frame) → FrameBelow n f → (k : ℕ) → Among k (refs_frame f) → k < n
among_frame n (initialization_frame class stage) b k m = absurd m
among_frame n entry_frame b k m = absurd m
among_frame n (method_frame name a o) b k m = by (among_split k (refs_activation a) (optional_number_shape.refs o) m)
  where
    by : Among k (refs_activation a) ⊎ Among k (optional_number_shape.refs o) → k < n
    by (inl c) = among_activation k n a b.0 b.1 c
    by (inr c) = among_number n k o b.2 c

among_object : (n k : ℕ) (e : Ending) (o : Option ℕ) → NumberBelow n o → Among k (object_refs e o) → k < n
among_object n k running o b m = among_number n k o b m
among_object n k returned o b m = absurd m
among_object n k (ended_by class) o b m = absurd m

among_thread : (n : ℕ) (t : Thread) → ThreadFits n t → (k : ℕ) → Among k (refs_thread t) → k < n
among_thread n t f k m = by (among_split k (object_refs t.ending t.object) (held_shape.refs (t.pending, t.frames)) m)
  where
    held : Among k (optional_number_shape.refs t.pending) ⊎ Among k (frames_shape.refs t.frames) → k < n
    held (inl c) = among_number n k t.pending f.pending c
    held (inr c) = among_all (FrameBelow n) refs_frame n (among_frame n) t.frames f.frames k c

    by : Among k (object_refs t.ending t.object) ⊎ Among k (held_shape.refs (t.pending, t.frames)) → k < n
    by (inl c) = among_object n k t.ending t.object f.object c
    by (inr c) = held (among_split k (optional_number_shape.refs t.pending) (frames_shape.refs t.frames) c)

among_static : (n : ℕ) (s : Static) → ValueBelow n s.value → (k : ℕ) → Among k (refs_static s) → k < n
among_static n s b k m = among_value k s.value n b m

pub among_roots : (w : World) → IsWellFormed w → (k : ℕ) → Among k (roots w) → k < length w.heap
among_roots w f k m = by (among_split k ((flat_map refs_thread w.threads ++ flat_map refs_static w.statics) ++ flat_map refs_monitor w.monitors) (flat_map refs_literal w.literals) m)
  where
    n : ℕ
    n = length w.heap

    literal : (l : Literal) → l.string < length w.heap → (j : ℕ) → Among j (refs_literal l) → j < length w.heap
    literal l b j (inl e) = subst (λ i. i < length w.heap) (sym e) b
    literal l b j (inr c) = absurd c

    monitor : (x : Monitor) → MonitorFits (length w.heap) (length w.threads) x → (j : ℕ) → Among j (refs_monitor x) → j < length w.heap
    monitor x b j (inl e) = subst (λ i. i < length w.heap) (sym e) b.object
    monitor x b j (inr c) = absurd c

    first : Among k (flat_map refs_thread w.threads) ⊎ Among k (flat_map refs_static w.statics) → k < length w.heap
    first (inl c) = among_all (ThreadFits (length w.heap)) refs_thread (length w.heap) (among_thread (length w.heap)) w.threads f.threads k c
    first (inr c) = among_all (λ s. ValueBelow (length w.heap) s.value) refs_static (length w.heap) (among_static (length w.heap)) w.statics f.statics k c

    second : Among k (flat_map refs_thread w.threads ++ flat_map refs_static w.statics) ⊎ Among k (flat_map refs_monitor w.monitors) → k < length w.heap
    second (inl c) = first (among_split k (flat_map refs_thread w.threads) (flat_map refs_static w.statics) c)
    second (inr c) = among_all (MonitorFits (length w.heap) (length w.threads)) refs_monitor (length w.heap) monitor w.monitors f.monitors k c

    by : Among k ((flat_map refs_thread w.threads ++ flat_map refs_static w.statics) ++ flat_map refs_monitor w.monitors) ⊎ Among k (flat_map refs_literal w.literals) → k < length w.heap
    by (inl c) = second (among_split k (flat_map refs_thread w.threads ++ flat_map refs_static w.statics) (flat_map refs_monitor w.monitors) c)
    by (inr c) = among_all (λ l. l.string < length w.heap) refs_literal (length w.heap) literal w.literals f.literals k c

object_below : (w : World) → IsWellFormed w → (j : ℕ) (o : Option Object) → slice_get w.heap j ≡ o → (k : ℕ) → Among k (refs_of o) → k < length w.heap
object_below w f j None e k m = absurd m
object_below w f j (Some o) e k m = among_values k (length w.heap) o.values (each_at (λ x. ValuesBelow (length w.heap) x.values) w.heap j o f.objects e) m

pub bounded : (w : World) → IsWellFormed w → IsBounded w
bounded w f k r = reach_within (λ j. j < length w.heap) (among_roots w f) (λ j i b m. object_below w f j (slice_get w.heap j) refl i m) k r

pub runs_are_well_formed : RunsAreWellFormed
runs_are_well_formed program limit events =
    let f : IsWellFormed (run_from (loaded_world program limit) events) = run_fits (loaded_world program limit) events (load_fits program limit) in
    (f, bounded (run_from (loaded_world program limit) events) f)
