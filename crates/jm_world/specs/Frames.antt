-- Frames (JVMS 2.6): of a method, of the initialization of a class, and a thread's entry.
use Rattle.std.specs.Prelude.{ℕ, List, [], ◌∷◌, Option}
use Rattle.jm_values.specs.Shape.{Shape, option_shape, list_shape, pair_shape}
use Rattle.jm_values.specs.Activation.{Activation}
use Rattle.jm_values.specs.Rename.{activation_shape}
use Rattle.jm_world.specs.Classes.{MethodName}
use Rattle.jm_world.specs.declared.stage.Stage.{Stage}

-- a method frame has its method, the part that plain instructions touch, and of a synchronized
-- method the object whose monitor it entered; an initialization frame has the class and what is
-- next; an entry frame stands for a thread that has not begun
pub data Frame : Type 0 where
  method_frame : MethodName → Activation → Option ℕ → Frame
  initialization_frame : List ℕ → Stage → Frame
  entry_frame : Frame

-- a number that is a reference
abbrev pub number_shape : Shape ℕ
number_shape = record { rename = λ f k. f k; refs = λ k. k ∷ []; refill = λ ns k. first_or ns k }
  where
    first_or : List ℕ → ℕ → ℕ
    first_or [] k = k
    first_or (n ∷ ns) k = n

abbrev pub optional_number_shape : Shape (Option ℕ)
optional_number_shape = option_shape number_shape

-- the references of a frame: its locals, its operands, and the monitor's object
abbrev pub method_part_shape : Shape (Activation × Option ℕ)
method_part_shape = pair_shape activation_shape optional_number_shape

abbrev pub rename_frame : (ℕ → ℕ) → Frame → Frame
rename_frame f (method_frame m a monitor) = method_frame m (activation_shape.rename f a) (optional_number_shape.rename f monitor)
rename_frame f (initialization_frame class stage) = initialization_frame class stage
rename_frame f entry_frame = entry_frame

abbrev pub refs_frame : Frame → List ℕ
refs_frame (method_frame m a monitor) = method_part_shape.refs (a, monitor)
refs_frame (initialization_frame class stage) = []
refs_frame entry_frame = []

abbrev pub refilled_method : MethodName → Activation × Option ℕ → Frame
refilled_method m p = method_frame m p.0 p.1

abbrev pub refill_frame : List ℕ → Frame → Frame
refill_frame ns (method_frame m a monitor) = refilled_method m (method_part_shape.refill ns (a, monitor))
refill_frame ns (initialization_frame class stage) = initialization_frame class stage
refill_frame ns entry_frame = entry_frame

abbrev pub frame_shape : Shape Frame
frame_shape = record { rename = rename_frame; refs = refs_frame; refill = refill_frame }

abbrev pub frames_shape : Shape (List Frame)
frames_shape = list_shape frame_shape
