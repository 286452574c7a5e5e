-- What a thread that is blocked waits for, in the model's words.
use Rattle.std.specs.Prelude.{◌≡◌, ◌≢◌, ℕ, List, [], ◌∷◌, Option, Some, None}
use Rattle.jm_world.specs.Frames.{Frame, method_frame, initialization_frame, entry_frame}
use Rattle.jm_world.specs.World.{World, Thread, Monitor, state_of}
use Rattle.jm_world.specs.Monitors.{monitor_in}
use Rattle.jm_world.specs.declared.class_state.ClassState.TheVariants.{InProgress}
use Rattle.jm_blocked_threads.specs.Asked.{Need, entering, initializing, asked_by_top}

-- another thread holds it
pub record IsHeld (w : World) (n k : ℕ) : Type 0 where
  pub monitor : Monitor
  pub held : monitor_in w.monitors k ≡ Some monitor
  pub other : monitor.owner ≢ n

-- another thread makes it
pub record IsBegun (w : World) (n : ℕ) (class : List ℕ) : Type 0 where
  pub owner : ℕ
  pub state_is : state_of w class ≡ InProgress owner
  pub other : owner ≢ n

abbrev pub Stands : World → ℕ → Need → Type 0
Stands w n (entering k) = IsHeld w n k
Stands w n (initializing class) = IsBegun w n class

-- of a thread that has not begun nothing is told
abbrev pub told_of : List Frame → Need → Option Need
told_of [] need = Some need
told_of (method_frame m a monitor ∷ fs) need = Some need
told_of (initialization_frame class stage ∷ fs) need = Some need
told_of (entry_frame ∷ fs) need = None

-- another thread has what it needs, and that is what it asks for
pub record Waits (w : World) (n : ℕ) (t : Thread) : Type 0 where
  pub need : Need
  pub in_way : Stands w n need
  pub told : asked_by_top w.program t.frames ≡ told_of t.frames need
