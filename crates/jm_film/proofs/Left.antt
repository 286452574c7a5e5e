-- The sections of what is left: of frames from the top one on, of threads, of other things.
use Rattle.std.proofs.Common.{◌≡◌, ℕ, ◌+◌, ◌-◌, ◌<◌, ◌≤◌, List, [], ◌∷◌, ◌++◌, Some, length, drop, slice_get, refl, sym, ap, ◌∙◌, append_assoc, append-nil, arith}
use Rattle.std.specs.Prelude.{map, Bool}
use Rattle.std.proofs.lemmas.List.{drop_all, length-drop}
use Rattle.std.proofs.lemmas.Option.{slice_get_within}
use Rattle.jm_program.specs.declared.class.ClassParts.{ClassParts}
use Rattle.jm_program.proofs.Sequences.{first_left as next}
use Rattle.jm_world.specs.Frames.{Frame}
use Rattle.jm_world.specs.Objects.{Object}
use Rattle.jm_world.specs.World.{Thread}
use Rattle.jm_page.specs.Sections.{Part}
use Rattle.jm_blocked_threads.specs.Blocked.{is_waiting}
use Rattle.jm_film.specs.Shown.{frame_sections, frames_sections, object_section, thread_sections, threads_sections}

pub frames_left : List ClassParts → ℕ → List Frame → ℕ → List Part
frames_left program n frames depth = frames_sections program n (drop depth frames)

pub all_frames : (program : List ClassParts) (n : ℕ) (frames : List Frame) → frames_left program n frames 0 ≡ frames_sections program n frames
unfolding frames_left
all_frames program n frames = refl

there : (program : List ClassParts) (n : ℕ) (frames : List Frame) (depth : ℕ) (f : Frame) → slice_get frames depth ≡ Some f
    → frames_left program n frames depth ≡ frame_sections program n (length frames - 1 - depth) f ++ frames_left program n frames (depth + 1)
unfolding frames_left
there program n frames depth f is =
    let within : depth < length frames = slice_get_within frames depth f is in
    let below : length (drop (depth + 1) frames) ≡ length frames - 1 - depth = omega (arith, length-drop (depth + 1) frames) in
    ap (frames_sections program n) (next frames depth f is)
    ∙ ap (λ height. frame_sections program n height f ++ frames_sections program n (drop (depth + 1) frames)) below

pub one_more_frame : (program : List ClassParts) (n : ℕ) (frames : List Frame) (count depth : ℕ) (f : Frame) (before after total : List Part) → count ≡ length frames
    → slice_get frames depth ≡ Some f → after ≡ before ++ frame_sections program n (count - 1 - depth) f → before ++ frames_left program n frames depth ≡ total
    → after ++ frames_left program n frames (depth + 1) ≡ total
one_more_frame program n frames count depth f before after total many is grown so_far =
    let told : after ≡ before ++ frame_sections program n (length frames - 1 - depth) f = grown ∙ ap (λ h. before ++ frame_sections program n (h - 1 - depth) f) many in
    ap (λ ps. ps ++ frames_left program n frames (depth + 1)) told
    ∙ append_assoc before (frame_sections program n (length frames - 1 - depth) f) (frames_left program n frames (depth + 1))
    ∙ ap (λ ps. before ++ ps) (sym (there program n frames depth f is))
    ∙ so_far

pub no_frame_left : (program : List ClassParts) (n : ℕ) (frames : List Frame) (depth : ℕ) (before total : List Part) → length frames ≤ depth
    → before ++ frames_left program n frames depth ≡ total → before ≡ total
unfolding frames_left
no_frame_left program n frames depth before total past so_far =
    let none : drop depth frames ≡ [] = drop_all depth frames past in
    sym (append-nil before) ∙ rw none at so_far

-- ---- threads, from an index on

pub threads_left : List ClassParts → List ℕ → List Thread → ℕ → List Part
threads_left program waiting threads index = threads_sections program waiting (index + 1) (drop index threads)

pub all_threads : (program : List ClassParts) (waiting : List ℕ) (threads : List Thread) → threads_left program waiting threads 0 ≡ threads_sections program waiting 1 threads
unfolding threads_left
all_threads program waiting threads = refl

thread_there : (program : List ClassParts) (waiting : List ℕ) (threads : List Thread) (index : ℕ) (t : Thread) → slice_get threads index ≡ Some t
    → threads_left program waiting threads index
    ≡ thread_sections program (is_waiting waiting (index + 1)) (index + 1) t t.ending ++ threads_left program waiting threads (index + 1)
unfolding threads_left
thread_there program waiting threads index t is = ap (threads_sections program waiting (index + 1)) (next threads index t is)

pub one_more_thread : (program : List ClassParts) (waiting : List ℕ) (threads : List Thread) (index : ℕ) (t : Thread) (waits : Bool) (before after total : List Part) → slice_get threads index ≡ Some t
    → waits ≡ is_waiting waiting (index + 1) → after ≡ before ++ thread_sections program waits (index + 1) t t.ending
    → before ++ threads_left program waiting threads index ≡ total → after ++ threads_left program waiting threads (index + 1) ≡ total
one_more_thread program waiting threads index t waits before after total is same grown so_far =
    ap (λ ps. ps ++ threads_left program waiting threads (index + 1)) (grown ∙ ap (λ b. before ++ thread_sections program b (index + 1) t t.ending) same)
    ∙ append_assoc before (thread_sections program (is_waiting waiting (index + 1)) (index + 1) t t.ending) (threads_left program waiting threads (index + 1))
    ∙ ap (λ ps. before ++ ps) (sym (thread_there program waiting threads index t is))
    ∙ so_far

pub no_thread_left : (program : List ClassParts) (waiting : List ℕ) (threads : List Thread) (index : ℕ) (before total : List Part) → length threads ≤ index
    → before ++ threads_left program waiting threads index ≡ total → before ≡ total
unfolding threads_left
no_thread_left program waiting threads index before total past so_far =
    let none : drop index threads ≡ [] = drop_all index threads past in
    sym (append-nil before) ∙ rw none at so_far

-- ---- a section for each of some things

pub one_more_of : {X : Type 0} (f : X → Part) (xs : List X) (i : ℕ) (x : X) (before after total : List Part) → slice_get xs i ≡ Some x
    → after ≡ before ++ f x ∷ [] → before ++ map f (drop i xs) ≡ total → after ++ map f (drop (i + 1) xs) ≡ total
one_more_of f xs i x before after total is grown so_far =
    ap (λ ps. ps ++ map f (drop (i + 1) xs)) grown
    ∙ append_assoc before (f x ∷ []) (map f (drop (i + 1) xs))
    ∙ ap (λ ys. before ++ map f ys) (sym (next xs i x is))
    ∙ so_far

pub none_left_of : {X : Type 0} (f : X → Part) (xs : List X) (i : ℕ) (before total : List Part) → length xs ≤ i → before ++ map f (drop i xs) ≡ total → before ≡ total
none_left_of f xs i before total past so_far =
    let none : drop i xs ≡ [] = drop_all i xs past in
    sym (append-nil before) ∙ rw none at so_far

pub one_more_object : (program its : List ClassParts) (os : List (ℕ × Object)) (i : ℕ) (o : ℕ × Object) (before after total : List Part) → slice_get os i ≡ Some o
    → its ≡ program → after ≡ before ++ object_section its o ∷ [] → before ++ map (object_section program) (drop i os) ≡ total
    → after ++ map (object_section program) (drop (i + 1) os) ≡ total
one_more_object program its os i o before after total is same grown so_far =
    one_more_of (object_section program) os i o before after total is (grown ∙ ap (λ p. before ++ object_section p o ∷ []) same) so_far
