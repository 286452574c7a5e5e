-- athrow, and one stage of unwinding (JVMS 2.10, 3.12, 6.5 athrow).
use Rattle.std.specs.Prelude.{ℕ, List, [], ◌∷◌, Option, Some, None, Bool, true, false, ◌&&◌, nat_le, nat_lt, slice_get, codes}
use Rattle.jm_program.specs.declared.class.Method.{Method}
use Rattle.jm_program.specs.declared.code.Handler.{Handler}
use Rattle.jm_values.specs.Activation.{Activation}
use Rattle.jm_values.specs.declared.value.Value.TheVariants.{Ref}
use Rattle.jm_values.specs.declared.fault.TagFault.TheVariants.{WrongKind, Overflow}
use Rattle.jm_world.specs.Classes.{MethodName, method_named, throwable_class, error_class}
use Rattle.jm_world.specs.Hierarchy.{is_subclass}
use Rattle.jm_world.specs.Types.{ObjectType, instance_of, array_of}
use Rattle.jm_world.specs.Frames.{Frame, method_frame, initialization_frame, entry_frame}
use Rattle.jm_world.specs.World.{World, Thread, with_thread, with_state, ended_by}
use Rattle.jm_world.specs.Next.{Next, goes, faults, make, exception}
use Rattle.jm_world.specs.Monitors.{leave_if}
use Rattle.jm_world.specs.Here.{Here, with_reference, with_object}
use Rattle.jm_world.specs.declared.class_state.ClassState.TheVariants.{Failed}

-- the class of an object is the other or below it
abbrev pub is_kind_of : World → ObjectType → List ℕ → Bool
is_kind_of w (instance_of class) above = is_subclass w.program class above
is_kind_of w (array_of component) above = false

-- athrow: the object becomes the pending exception, and the frame stays as it is
abbrev pub row_throw : Here → Next
row_throw here = with_reference here.frame.stack (λ r s. with_object here r (λ k o. elim (is_kind_of here.world o.type throwable_class) [
  | true ↦ goes (with_thread here.world here.number (record here.thread { pending = Some k }))
  | false ↦ faults WrongKind
]))

-- a handler catches at an instruction of its range, whose start is in and whose end is out, an
-- exception of its type; without a type every one (JVMS 2.10, 4.7.3)
abbrev pub catches_type : World → ObjectType → Option (List ℕ) → Bool
catches_type w thrown None = true
catches_type w thrown (Some class) = is_kind_of w thrown class

abbrev pub catches : World → ℕ → ObjectType → Handler → Bool
catches w at thrown h = elim (nat_le h.start at && nat_lt at h.end) [ true ↦ catches_type w thrown h.catch_type | false ↦ false ]

-- the first that catches, in table order
abbrev pub handler_in : World → ℕ → ObjectType → List Handler → Option Handler
handler_in w at thrown [] = None
handler_in w at thrown (h ∷ hs) = elim (catches w at thrown h) [ true ↦ Some h | false ↦ handler_in w at thrown hs ]

abbrev pub handlers_of : Option Method → List Handler
handlers_of None = []
handlers_of (Some m) = elim m.code [ None ↦ [] | Some code ↦ code.handlers ]

-- the class by which a thread ends
abbrev pub class_name : ObjectType → List ℕ
class_name (instance_of class) = class
class_name (array_of component) = []

-- the thread's frames are these and the exception is pending: without a frame the thread has ended
-- by the exception
abbrev pub unwound : World → ℕ → Thread → List Frame → ℕ → ObjectType → Next
unwound w number t [] k type = goes (with_thread w number (record { object = t.object; frames = []; pending = None; ending = ended_by (class_name type) }))
unwound w number t (f ∷ fs) k type = goes (with_thread w number (record { object = t.object; frames = f ∷ fs; pending = Some k; ending = t.ending }))

-- the same, with a new exception of a built-in class in the place of the old one
abbrev pub unwound_anew : World → World → ℕ → Thread → List Frame → List ℕ → Next
unwound_anew before w number t fs class = make before (exception class) (λ made k.
    unwound (record w { heap = made.heap }) number t fs k (instance_of class))

-- drops a method frame, and leaves its monitor: a thread that does not own it has a new
-- IllegalMonitorStateException
abbrev pub drop_method : World → ℕ → Thread → Option ℕ → List Frame → ℕ → ObjectType → Next
drop_method w number t monitor fs k type = elim (leave_if w number monitor) [
  | Some left ↦ unwound left number t fs k type
  | None ↦ unwound_anew w w number t fs (codes "java/lang/IllegalMonitorStateException")
]

-- goes to the handler with the exception as the one operand
abbrev pub handle : World → ℕ → Thread → MethodName → Activation → Option ℕ → List Frame → ℕ → Handler → Next
handle w number t m a monitor fs k h = elim (nat_le 1 a.max_stack) [
  | false ↦ faults Overflow
  | true ↦ goes (with_thread w number (record {
    object = t.object;
    frames = method_frame m (record { at = h.target; max_stack = a.max_stack; locals = a.locals; stack = Ref k ∷ [] }) monitor ∷ fs;
    pending = None;
    ending = t.ending;
  }))
]

-- the class of the frame has failed; an exception that is no Error becomes a new
-- ExceptionInInitializerError (JVMS 5.5)
abbrev pub drop_initialization : World → ℕ → Thread → List ℕ → List Frame → ℕ → ObjectType → Next
drop_initialization w number t class fs k type = elim (is_kind_of w type error_class) [
  | true ↦ unwound (with_state w class Failed) number t fs k type
  | false ↦ unwound_anew w (with_state w class Failed) number t fs (codes "java/lang/ExceptionInInitializerError")
]

abbrev pub unwind_frames : World → ℕ → Thread → List Frame → ℕ → ObjectType → Next
unwind_frames w number t [] k type = unwound w number t [] k type
unwind_frames w number t (method_frame m a monitor ∷ fs) k type = elim (handler_in w a.at type (handlers_of (method_named w.program m))) [
  | Some h ↦ handle w number t m a monitor fs k h
  | None ↦ drop_method w number t monitor fs k type
]
unwind_frames w number t (initialization_frame class stage ∷ fs) k type = drop_initialization w number t class fs k type
unwind_frames w number t (entry_frame ∷ fs) k type = unwound w number t fs k type

-- one stage: to the first handler that catches, or the top frame is dropped
abbrev pub unwind : World → ℕ → Thread → ℕ → Next
unwind w number t k = elim (slice_get w.heap k) [ None ↦ faults WrongKind | Some o ↦ unwind_frames w number t t.frames k o.type ]
