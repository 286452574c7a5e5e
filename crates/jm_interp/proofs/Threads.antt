-- A thread of a state, and the part of a machine that it is.
use Rattle.std.proofs.Common.{◌≡◌, ℕ, ◌<◌, ◌≤◌, List, [], ◌∷◌, Option, Some, drop, length, refl, sym, ap, ◌∙◌, subst, ◌⊎◌, arith}
use Rattle.std.specs.Prelude.{map, slice_get, slice_set, vec_len}
use Rattle.std.proofs.lemmas.List.{length-reverse}
use Rattle.std.specs.List.{AllByRecursion}
use Rattle.jm_values.specs.Shape.{Among}
use Rattle.jm_values.proofs.Among.{among_left, among_right, among_split}
use Rattle.jm_world.specs.Frames.{frames_shape, optional_number_shape, refs_frame}
use Rattle.jm_world.specs.World.{refs_thread, object_refs, held_shape}
use Rattle.jm_linked.specs.Links.{LinkedView}
use Rattle.jm_state.specs.Parts.{part_of_held, thread_part, frame_part, ending_part}
use Rattle.jm_state.specs.Places.{HeldThread, held_thread}
use Rattle.jm_state.specs.Runnable.{FrameRuns, ThreadRuns}
use Rattle.jm_state.specs.declared.thread.StackFrame.{StackFrame}
use Rattle.jm_state.specs.declared.thread.Thread as held
use Rattle.jm_interp.specs.Standing.{OwnObject, ThreadRest, rest_of, told, running, Stands, held_as, part_of}
use Rattle.jm_values.proofs.Lists.{map_set, get_map, each_set, each_at}

-- the thread seen from the top of its frames, and the part that it is
pub held_is : {t : held.Thread} {fs : List StackFrame} {r : ThreadRest} → Stands t fs r → held_thread t ≡ held_as fs r
held_is {t} {fs} s = ap (λ x. held_as x (rest_of t)) s.frames_are ∙ ap (held_as fs) s.rest_is

pub part_is : (l : LinkedView) (t : held.Thread) (fs : List StackFrame) (r : ThreadRest) → Stands t fs r → thread_part l t ≡ part_of l fs r
part_is l t fs r s = ap (part_of_held l) (held_is s)

-- its references: its object, its pending exception and its frames
pub object_or_held : (l : LinkedView) (fs : List StackFrame) (r : ThreadRest) (q : ℕ) → Among q (refs_thread (part_of l fs r))
    → Among q (object_refs (ending_part l.program r.ending) (told r)) ⊎ Among q (held_shape.refs (r.pending, map (frame_part l) fs))
object_or_held l fs r q a = among_split q (object_refs (ending_part l.program r.ending) (told r)) (held_shape.refs (r.pending, map (frame_part l) fs)) a

pub part_refs : (l : LinkedView) (fs : List StackFrame) (p : Option ℕ) (q : ℕ) → Among q (held_shape.refs (p, map (frame_part l) fs))
    → Among q (optional_number_shape.refs p) ⊎ Among q (frames_shape.refs (map (frame_part l) fs))
part_refs l fs p q a = among_split q (optional_number_shape.refs p) (frames_shape.refs (map (frame_part l) fs)) a

pub object_in : (l : LinkedView) (fs : List StackFrame) (r : ThreadRest) (q : ℕ) → Among q (object_refs (ending_part l.program r.ending) (told r))
    → Among q (refs_thread (part_of l fs r))
object_in l fs r q a = among_left q (object_refs (ending_part l.program r.ending) (told r)) (held_shape.refs (r.pending, map (frame_part l) fs)) a

held_in : (l : LinkedView) (fs : List StackFrame) (r : ThreadRest) (q : ℕ) → Among q (held_shape.refs (r.pending, map (frame_part l) fs))
    → Among q (refs_thread (part_of l fs r))
held_in l fs r q a = among_right q (object_refs (ending_part l.program r.ending) (told r)) (held_shape.refs (r.pending, map (frame_part l) fs)) a

pub pending_refs : (l : LinkedView) (fs : List StackFrame) (r : ThreadRest) (q : ℕ) → Among q (optional_number_shape.refs r.pending)
    → Among q (refs_thread (part_of l fs r))
pending_refs l fs r q a = held_in l fs r q (among_left q (optional_number_shape.refs r.pending) (frames_shape.refs (map (frame_part l) fs)) a)

pub frames_refs : (l : LinkedView) (fs : List StackFrame) (r : ThreadRest) (q : ℕ) → Among q (frames_shape.refs (map (frame_part l) fs))
    → Among q (refs_thread (part_of l fs r))
frames_refs l fs r q a = held_in l fs r q (among_right q (optional_number_shape.refs r.pending) (frames_shape.refs (map (frame_part l) fs)) a)

-- what a thread keeps to
pub record PartRuns (l : LinkedView) (fs : List StackFrame) (r : ThreadRest) : Type 0 where
  pub runs : ThreadRuns l (held_as fs r)

pub part_runs : {l : LinkedView} {t : held.Thread} {fs : List StackFrame} {r : ThreadRest} → Stands t fs r → ThreadRuns l (held_thread t)
    → PartRuns l fs r
part_runs {l} s runs = record { runs = subst (ThreadRuns l) (held_is s) runs }

-- with another pending exception, without its top frame, with another on top, and with one more
pub with_pending : {l : LinkedView} {fs : List StackFrame} {o : OwnObject} {p q : Option ℕ} → PartRuns l fs (running o p) → PartRuns l fs (running o q)
with_pending r = record { runs = record { frames = r.runs.frames; few = r.runs.few } }

pub without_top : {l : LinkedView} {f : StackFrame} {fs : List StackFrame} {o : OwnObject} {p q : Option ℕ} → PartRuns l (f ∷ fs) (running o p)
    → PartRuns l fs (running o q)
without_top r = record { runs = record { frames = r.runs.frames.1; few = let k = r.runs.few in omega arith } }

pub with_top : {l : LinkedView} {f g : StackFrame} {fs : List StackFrame} {o : OwnObject} {p q : Option ℕ} → FrameRuns l g
    → PartRuns l (f ∷ fs) (running o p) → PartRuns l (g ∷ fs) (running o q)
with_top frame r = record { runs = record { frames = (frame, r.runs.frames.1); few = let k = r.runs.few in omega arith } }

pub with_more : {l : LinkedView} {g : StackFrame} {fs : List StackFrame} {o : OwnObject} {p : Option ℕ} → FrameRuns l g → length fs < 512
    → PartRuns l fs (running o p) → PartRuns l (g ∷ fs) (running o p)
with_more frame few r = record { runs = record { frames = (frame, r.runs.frames); few = omega arith } }

-- and with its top frame dropped, if it has one
pub dropped_part : {l : LinkedView} (fs : List StackFrame) {o : OwnObject} {p : Option ℕ} → PartRuns l fs (running o p) → PartRuns l (drop 1 fs) (running o p)
dropped_part [] r = r
dropped_part (f ∷ fs) r = without_top r

pub dropped_refs : (l : LinkedView) (fs : List StackFrame) (q : ℕ) → Among q (frames_shape.refs (map (frame_part l) (drop 1 fs)))
    → Among q (frames_shape.refs (map (frame_part l) fs))
dropped_refs l [] q a = a
dropped_refs l (f ∷ fs) q a = among_right q (refs_frame (frame_part l f)) (frames_shape.refs (map (frame_part l) fs)) a

-- of each of a list of threads with another in it, and of one of them
pub all_set : (P : HeldThread → Type 0) (ts : List held.Thread) (i : ℕ) (t : held.Thread) → AllByRecursion P (map held_thread ts) → P (held_thread t)
    → AllByRecursion P (map held_thread (slice_set ts i t))
all_set P ts i t all it = subst (AllByRecursion P) (sym (map_set held_thread ts i t)) (each_set P (map held_thread ts) i (held_thread t) all it)

pub all_at : (P : HeldThread → Type 0) (ts : List held.Thread) (i : ℕ) (t : held.Thread) → AllByRecursion P (map held_thread ts) → slice_get ts i ≡ Some t
    → P (held_thread t)
all_at P ts i t all e = each_at P (map held_thread ts) i (held_thread t) all (get_map held_thread ts i t e)

-- the frames of a thread by their number
abbrev pub tail_of : List StackFrame → List StackFrame
tail_of [] = []
tail_of (f ∷ fs) = fs

pub record HasTwo (fs : List StackFrame) : Type 0 where
  pub top : StackFrame
  pub next : StackFrame
  pub rest : List StackFrame
  pub is : fs ≡ top ∷ next ∷ rest

module _ {t : held.Thread} {fs : List StackFrame} {r : ThreadRest} {n : ℕ} (s : Stands t fs r) (k : n ≡ vec_len t.frames) where
  pub count_is : n ≡ length fs
  count_is = k ∙ t.frames.ok.0 ∙ sym (length-reverse t.frames.items) ∙ ap length s.frames_are

  pub two_frames : 1 < n → HasTwo fs
  two_frames h = by fs count_is
    where
      by : (gs : List StackFrame) → n ≡ length gs → HasTwo gs
      by [] e = absurd (omega arith)
      by (f ∷ []) e = absurd (omega arith)
      by (f ∷ g ∷ gs) e = record { top = f; next = g; rest = gs; is = refl }

  pub few_frames : n ≤ 1 → tail_of fs ≡ []
  few_frames h = by fs count_is
    where
      by : (gs : List StackFrame) → n ≡ length gs → tail_of gs ≡ []
      by [] e = refl
      by (f ∷ []) e = refl
      by (f ∷ g ∷ gs) e = absurd (omega arith)
