-- What every state of a run of a linked program keeps to, beside its world.
use Rattle.std.specs.Prelude.{◌≡◌, ◌<◌, ◌≤◌, ◌||◌, ℕ, List, [], ◌∷◌, Option, Bool, false, length, map, nat_eq}
use Rattle.std.specs.List.{AllByRecursion}
use Rattle.jm_world.specs.BuiltInMethods.{is_object_of}
use Rattle.jm_world.specs.World.{live_among}
use Rattle.jm_world.specs.Loading.{first_statics, literal_texts}
use Rattle.jm_linked.specs.Links.{LinkedView}
use Rattle.jm_state.specs.Parts.{thread_part}
use Rattle.jm_state.specs.Places.{HeldThread, held_thread}
use Rattle.jm_state.specs.View.{StateView, view_of}
use Rattle.jm_state.specs.declared.thread.StackFrame.{StackFrame}
use Rattle.jm_state.specs.declared.thread.StackFrame.TheVariants.{Method, Initialization, Entry}
use Rattle.jm_state.specs.declared.thread.Thread.{Thread}
use Rattle.jm_state.specs.declared.state.State.{State}

-- a method frame is of a method with code, an initialization frame of a class of the program
abbrev pub FrameRuns : LinkedView → StackFrame → Type 0
FrameRuns l (Method f) = f.method < length l.methods
FrameRuns l (Initialization class stage) = class < length l.program
FrameRuns l Entry = Unit {0}

pub record ThreadRuns (l : LinkedView) (t : HeldThread) : Type 0 where
  pub frames : AllByRecursion (FrameRuns l) t.frames
  pub few : length t.frames ≤ 512

-- whether a number is one of these
abbrev pub is_among : ℕ → List ℕ → Bool
is_among k [] = false
is_among k (n ∷ ns) = nat_eq k n || is_among k ns

-- whether a thread's object has that serial
abbrev pub is_started : ℕ → List (Option ℕ) → Bool
is_started k [] = false
is_started k (o ∷ os) = is_object_of k o || is_started k os

pub record IsRunnable (l : LinkedView) (s : StateView) : Type 0 where
  pub threads : AllByRecursion (ThreadRuns l) (map held_thread s.threads)
  pub live : s.live ≡ live_among (map (thread_part l) s.threads)
  pub statics : length s.statics ≡ length (first_statics l.program)
  pub literals : length s.literals ≡ length (literal_texts l.program)
  pub classes : length s.classes ≡ length l.program
  -- the threads' objects are found by their serials
  pub started : (k : ℕ) → is_among k s.started ≡ is_started k (map (λ (t : Thread). t.serial) s.threads)

abbrev pub StateRuns : {H : Type 0} → LinkedView → State H → Type 0
StateRuns l s = IsRunnable l (view_of s)
