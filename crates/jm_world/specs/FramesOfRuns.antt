-- What the frames of every world of a run keep to (JVMS 2.6), and who initializes the classes that
-- are in progress (JVMS 5.5).
use Rattle.std.specs.Prelude.{◌≡◌, ◌≤◌, ◌⊎◌, ℕ, List, [], ◌∷◌, Option, Some, None, length}
use Rattle.std.specs.List.{AllByRecursion}
use Rattle.jm_program.specs.declared.class.ClassParts.{ClassParts}
use Rattle.jm_values.specs.WellFormed.{IsWellFormed}
use Rattle.jm_world.specs.Frames.{Frame, method_frame, initialization_frame, entry_frame}
use Rattle.jm_world.specs.World.{World, Thread, thread_at, state_of}
use Rattle.jm_world.specs.Loading.{loaded_world}
use Rattle.jm_world.specs.Run.{after, run_from}
use Rattle.jm_world.specs.declared.class_state.ClassState.TheVariants.{InProgress}
use Rattle.jm_world.specs.declared.event.Event.{Event}
use Rattle.jm_world.specs.declared.stage.Stage.{Stage}
use Rattle.jm_world.specs.declared.stage.Stage.TheVariants.{Begin, Superclass, Initializer, End}

-- of each method frame the operands fit in max_stack and longs are whole (JVMS 2.6.1, 2.6.2); an
-- entry frame is a thread's only one
abbrev pub FramesStand : List Frame → Type 0
FramesStand [] = Unit {0}
FramesStand (method_frame m a monitor ∷ below) = IsWellFormed a × FramesStand below
FramesStand (initialization_frame class stage ∷ below) = FramesStand below
FramesStand (entry_frame ∷ below) = below ≡ []

-- a thread has at most 512 frames (JVMS 2.5.2)
abbrev pub ThreadStands : Thread → Type 0
ThreadStands t = FramesStand t.frames × (length t.frames ≤ 512)

-- an initialization that has begun: of the class, and past its first stage
abbrev pub HasBegun : List ℕ → List ℕ → Stage → Type 0
HasBegun class of Begin = ⊥
HasBegun class of Superclass = of ≡ class
HasBegun class of Initializer = of ≡ class
HasBegun class of End = of ≡ class

-- one of the frames is of the initialization of the class, which has begun
abbrev pub Initialize : List Frame → List ℕ → Type 0
Initialize [] class = ⊥
Initialize (method_frame m a monitor ∷ below) class = Initialize below class
Initialize (initialization_frame of stage ∷ below) class = HasBegun class of stage ⊎ Initialize below class
Initialize (entry_frame ∷ below) class = Initialize below class

abbrev pub Initializes : Option Thread → List ℕ → Type 0
Initializes None class = ⊥
Initializes (Some t) class = Initialize t.frames class

pub record ThreadsStand (w : World) : Type 0 where
  pub threads : AllByRecursion ThreadStands w.threads
  -- a class in progress is initialized by a frame of the thread that owns it
  pub owners : (class : List ℕ) (owner : ℕ) → state_of w class ≡ InProgress owner → Initializes (thread_at w owner) class

-- an event keeps it so
abbrev pub EventsKeepFrames : Type 0
EventsKeepFrames = (w : World) (e : Event) → ThreadsStand w → ThreadsStand (after w e).world

-- and so it is in every world that a load and events make
abbrev pub RunsKeepFrames : Type 0
RunsKeepFrames = (program : List ClassParts) (limit : ℕ) (events : List Event) → ThreadsStand (run_from (loaded_world program limit) events)
