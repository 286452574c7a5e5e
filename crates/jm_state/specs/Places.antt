-- The places that a state holds, and others put where they are.
use Rattle.std.specs.Prelude.{◌≡◌, ℕ, List, [], map, reverse, Option, None}
use Rattle.jm_values.specs.Shape.{Shape, list_shape, pair_shape, part_shape}
use Rattle.jm_values.specs.Activation.{Activation}
use Rattle.jm_values.specs.Rename.{stack_shape}
use Rattle.jm_values.specs.declared.value.Value.{Value}
use Rattle.jm_frames.specs.FrameView.{FrameView}
use Rattle.jm_world.specs.Frames.{number_shape, optional_number_shape, method_part_shape}
use Rattle.jm_state.specs.View.{StateView}
use Rattle.jm_monitors.specs.HeldMonitors.{HeldMonitor, held_shape}
use Rattle.jm_state.specs.declared.thread.Ending.{Ending}
use Rattle.jm_state.specs.declared.thread.Ending.TheVariants.{Running, Returned, EndedBy}
use Rattle.jm_state.specs.declared.thread.StackFrame.{StackFrame}
use Rattle.jm_state.specs.declared.thread.StackFrame.TheVariants.{Method, Initialization, Entry}
use Rattle.jm_state.specs.declared.thread.Thread.{Thread}

-- a method frame: its local variables, its operands from the top, and the monitor's object
abbrev pub method_holders : FrameView → Activation × Option ℕ
method_holders f = (f.activation, f.monitor)

abbrev pub with_method_holders : Activation × Option ℕ → FrameView → FrameView
with_method_holders p f = record { method = f.method; monitor = p.1; activation = p.0 }

abbrev pub method_shape : Shape FrameView
method_shape = part_shape method_holders with_method_holders method_part_shape

-- an initialization frame and an entry frame have none
abbrev pub rename_stack_frame : (ℕ → ℕ) → StackFrame → StackFrame
rename_stack_frame f (Method frame) = Method (method_shape.rename f frame)
rename_stack_frame f (Initialization class stage) = Initialization class stage
rename_stack_frame f Entry = Entry

abbrev pub refs_stack_frame : StackFrame → List ℕ
refs_stack_frame (Method frame) = method_shape.refs frame
refs_stack_frame (Initialization class stage) = []
refs_stack_frame Entry = []

abbrev pub refill_stack_frame : List ℕ → StackFrame → StackFrame
refill_stack_frame ns (Method frame) = Method (method_shape.refill ns frame)
refill_stack_frame ns (Initialization class stage) = Initialization class stage
refill_stack_frame ns Entry = Entry

abbrev pub stack_frame_shape : Shape StackFrame
stack_frame_shape = record { rename = rename_stack_frame; refs = refs_stack_frame; refill = refill_stack_frame }

-- a thread with its frames from the top
pub record HeldThread : Type 0 where
  pub object : Option ℕ
  pub serial : Option ℕ
  pub frames : List StackFrame
  pub pending : Option ℕ
  pub ending : Ending

abbrev pub held_thread : Thread → HeldThread
held_thread t = record { object = t.object; serial = t.serial; frames = reverse t.frames.items; pending = t.pending; ending = t.ending }

-- a thread's object has a place while the thread has not ended
abbrev pub live_object : Ending → Option ℕ → Option ℕ
live_object Running object = object
live_object Returned object = None
live_object (EndedBy class) object = None

abbrev pub with_live_object : Ending → Option ℕ → Option ℕ → Option ℕ
with_live_object Running place object = place
with_live_object Returned place object = object
with_live_object (EndedBy class) place object = object

-- its object, its pending exception, then its frames
abbrev pub thread_holders : HeldThread → Option ℕ × (Option ℕ × List StackFrame)
thread_holders t = (live_object t.ending t.object, (t.pending, t.frames))

abbrev pub with_thread_holders : Option ℕ × (Option ℕ × List StackFrame) → HeldThread → HeldThread
with_thread_holders p t =
    record { object = with_live_object t.ending p.0 t.object; serial = t.serial; frames = p.1.1; pending = p.1.0; ending = t.ending }

abbrev pub held_thread_shape : Shape HeldThread
held_thread_shape =
    part_shape thread_holders with_thread_holders (pair_shape optional_number_shape (pair_shape optional_number_shape (list_shape stack_frame_shape)))

-- the threads, the values of the static fields, the monitors and the literals
abbrev pub Holders : Type 0
Holders = List HeldThread × (List Value × (List HeldMonitor × List ℕ))

abbrev pub holders : StateView → Holders
holders s = (map held_thread s.threads, (s.statics, (s.monitors, s.literals)))

abbrev pub holders_shape : Shape Holders
holders_shape = pair_shape (list_shape held_thread_shape) (pair_shape stack_shape (pair_shape (list_shape held_shape) (list_shape number_shape)))

-- the places of a thread, and of a state
abbrev pub thread_places : Thread → List ℕ
thread_places t = held_thread_shape.refs (held_thread t)

unfoldable pub places_of : StateView → List ℕ
places_of s = holders_shape.refs (holders s)

-- all that a state holds but which objects it refers to
abbrev pub erased : StateView → Holders
erased s = holders_shape.rename (λ p. 0) (holders s)

-- the state is as it was, but that its objects may have moved
pub record OnlyMoved (old new : StateView) : Type 0 where
  pub held : erased new ≡ erased old
  pub started : new.started ≡ old.started
  pub live : new.live ≡ old.live
  pub classes : new.classes ≡ old.classes
  pub output : new.output ≡ old.output
  pub stop : new.stop ≡ old.stop

-- these places stand where the state's places were
pub record IsPutBack (places : List ℕ) (old new : StateView) : Type 0 where
  pub held : holders new ≡ holders_shape.refill places (holders old)
  pub moved : OnlyMoved old new
