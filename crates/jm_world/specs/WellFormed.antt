-- What every world of a run keeps to.
use Rattle.std.specs.Prelude.{◌≡◌, ◌<◌, ◌≤◌, ◌^◌, ℕ, List, [], map, Option, Some, None, false, length}
use Rattle.std.specs.List.{AllByRecursion}
use Rattle.jm_values.specs.declared.value.Value.{Value}
use Rattle.jm_values.specs.declared.value.Value.TheVariants.{Int, Long, Null, Ref}
use Rattle.jm_program.specs.declared.class.ClassParts.{ClassParts}
use Rattle.jm_world.specs.Frames.{Frame, method_frame, initialization_frame, entry_frame}
use Rattle.jm_world.specs.World.{World, Thread, Monitor, is_running}
use Rattle.jm_values.specs.Reach.{AllDistinct}
use Rattle.jm_world.specs.Reaching.{IsBounded}
use Rattle.jm_world.specs.Loading.{loaded_world}
use Rattle.jm_world.specs.Run.{after, run_from}
use Rattle.jm_world.specs.declared.event.Event.{Event}

-- references are the numbers of objects: they are below how many there are
abbrev pub ValueBelow : ℕ → Value → Type 0
ValueBelow n (Ref k) = k < n
ValueBelow n (Int i) = Unit {0}
ValueBelow n (Long i) = Unit {0}
ValueBelow n Null = Unit {0}

abbrev pub ValuesBelow : ℕ → List Value → Type 0
ValuesBelow n = AllByRecursion (ValueBelow n)

abbrev pub LocalBelow : ℕ → Option Value → Type 0
LocalBelow n None = Unit {0}
LocalBelow n (Some v) = ValueBelow n v

abbrev pub LocalsBelow : ℕ → List (Option Value) → Type 0
LocalsBelow n = AllByRecursion (LocalBelow n)

abbrev pub NumberBelow : ℕ → Option ℕ → Type 0
NumberBelow n None = Unit {0}
NumberBelow n (Some k) = k < n

abbrev pub FrameBelow : ℕ → Frame → Type 0
FrameBelow n (method_frame m a monitor) = LocalsBelow n a.locals × ValuesBelow n a.stack × NumberBelow n monitor
FrameBelow n (initialization_frame class stage) = Unit {0}
FrameBelow n entry_frame = Unit {0}

abbrev pub FramesBelow : ℕ → List Frame → Type 0
FramesBelow n = AllByRecursion (FrameBelow n)

-- an ended thread has no frames and nothing pending
pub record ThreadFits (n : ℕ) (t : Thread) : Type 0 where
  pub object : NumberBelow n t.object
  pub pending : NumberBelow n t.pending
  pub frames : FramesBelow n t.frames
  pub ended : is_running t.ending ≡ false → (t.frames ≡ []) × (t.pending ≡ None)

-- a monitor that is held is an object's and a thread's, and its count is that of its entries
pub record MonitorFits (objects threads : ℕ) (m : Monitor) : Type 0 where
  pub object : m.object < objects
  pub owner_from_one : 1 ≤ m.owner
  pub owner_made : m.owner ≤ threads
  pub entered : 1 ≤ m.count
  pub counted : m.count < 2 ^ 31

pub record IsWellFormed (w : World) : Type 0 where
  pub objects : AllByRecursion (λ o. ValuesBelow (length w.heap) o.values) w.heap
  pub literals : AllByRecursion (λ l. l.string < length w.heap) w.literals
  pub statics : AllByRecursion (λ s. ValueBelow (length w.heap) s.value) w.statics
  pub monitors : AllByRecursion (MonitorFits (length w.heap) (length w.threads)) w.monitors
  -- no two threads own one object's monitor
  pub once : AllDistinct (map (λ m. m.object) w.monitors)
  pub threads : AllByRecursion (ThreadFits (length w.heap)) w.threads

-- an event leaves a well-formed world well formed
abbrev pub EventsKeepForm : Type 0
EventsKeepForm = (w : World) (e : Event) → IsWellFormed w → IsWellFormed (after w e).world

-- a world from a load is well formed after all events, and so what it reaches has objects
abbrev pub RunsAreWellFormed : Type 0
RunsAreWellFormed = (program : List ClassParts) (limit : ℕ) (events : List Event) →
    let w : World = run_from (loaded_world program limit) events in IsWellFormed w × IsBounded w
