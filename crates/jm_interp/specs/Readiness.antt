-- What a class asks for before it is used (JVMS 5.5).
use Rattle.std.specs.Prelude.{◌≡◌, ℕ, ◌+◌, ◌≤◌, List, ◌∷◌, length, Bool, false, Result, Ok, Err}
use Rattle.jm_builtins.specs.List.{the_builtins}
use Rattle.jm_values.specs.Content.{Content}
use Rattle.jm_world.specs.Here.{Here, is_ready, push_frame, all_frames}
use Rattle.jm_world.specs.Frames.{initialization_frame}
use Rattle.jm_world.specs.Matches.{Matches}
use Rattle.jm_world.specs.Next.{Next}
use Rattle.jm_world.specs.World.{World, state_of}
use Rattle.jm_world.specs.declared.stage.Stage.TheVariants.{Begin}
use Rattle.jm_heap.specs.declared.class_id.ClassId.{ClassId}
use Rattle.jm_linked.specs.Links.{NamesClass}
use Rattle.jm_state.specs.declared.state.State.{State}
use Rattle.jm_state.specs.declared.thread.StackFrame.{StackFrame}
use Rattle.jm_state.specs.declared.thread.StackFrame.TheVariants.{Initialization}
use Rattle.jm_state.specs.declared.thread.Thread as held
use Rattle.jm_interp.specs.declared.at.At.{At}
use Rattle.jm_interp.specs.At.{parts_at}
use Rattle.jm_interp.specs.Standing.{ThreadRest, Stands}

-- whether nothing is to be done for the class of a number by this thread before it is used, beside
-- every world of the state: a class for which something is to be done is the program's own
pub record Readiness {H : Type 0} (content : H → Content ClassId) (at : At) (s : State H) (class : ℕ) (ready : Bool) : Type 0 where
  pub is : (w : World) (name : List ℕ) → Matches (parts_at content at s) w → NamesClass at.linked.now.program class name
      → is_ready (state_of w name) (at.index + 1) ≡ ready
  pub own : ready ≡ false → length the_builtins ≤ class

-- the model's row where the class is not ready: the frame of its initialization is put on top
abbrev pub begins : List ℕ → Here → Next
begins name here = push_frame here.world here.number here.thread (all_frames here) (initialization_frame name Begin)

-- an initialization, of a class by its number among the program's, has begun on top, or nothing has changed
abbrev pub BegunOnTop : {E : Type 0} → Result (Unit {0}) E → held.Thread → ℕ → List StackFrame → ThreadRest → Type 0
BegunOnTop (Ok done) new class fs r = Stands new (Initialization class Begin ∷ fs) r
BegunOnTop (Err refused) new class fs r = Stands new fs r
