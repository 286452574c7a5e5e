-- What the calls on a thread and on a state leave.
use Rattle.std.specs.Prelude.{◌≡◌, List, ◌∷◌}
use Rattle.jm_frames.specs.FrameView.{FrameView}
use Rattle.jm_values.specs.Activation.{Activation}
use Rattle.jm_values.specs.Outcome.{Outcome, goes, throws, faults}
use Rattle.jm_state.specs.declared.thread.StackFrame.{StackFrame}
use Rattle.jm_state.specs.declared.thread.StackFrame.TheVariants.{Method}
use Rattle.jm_state.specs.declared.thread.Thread as held
use Rattle.jm_interp.specs.Standing.{ThreadRest, Stands}

-- where the frame does not go on, it stays as it was
abbrev pub Stays : Outcome → FrameView → FrameView → Type 0
Stays (goes a) old new = Unit {0}
Stays (throws class) old new = new ≡ old
Stays (faults fault) old new = new ≡ old

-- the top frame is as a row leaves it; `ends` is the outcome of the call's result and the new frame
pub record IsStepped (row ends : Activation → Outcome) (new : held.Thread) (f : FrameView) (below : List StackFrame) (rest : ThreadRest) : Type 0 where
  pub frame : FrameView
  pub stands : Stands new (Method frame ∷ below) rest
  pub made : row f.activation ≡ ends frame.activation
  pub stays : Stays (ends frame.activation) f frame
  pub same : frame ≡ record f { activation = frame.activation }
