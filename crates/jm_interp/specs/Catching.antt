-- Which handler catches an exception (JVMS 2.10, 4.7.3).
use Rattle.std.specs.Prelude.{◌≡◌, ℕ, ◌+◌, ◌<◌, ◌≤◌, List, [], ◌∷◌, drop, length, codes, Option, Some, None, Bool, true, false, Result, Ok, Err}
use Rattle.std.specs.Prelude.{option_map, map}
use Rattle.jm_program.specs.declared.class.ClassParts.{ClassParts}
use Rattle.jm_program.specs.declared.code.Handler.{Handler}
use Rattle.jm_builtins.specs.List.{the_builtins}
use Rattle.jm_frames.specs.FrameView.{FrameView, with_stack, gone_to}
use Rattle.jm_values.specs.declared.fault.TagFault.{TagFault}
use Rattle.jm_values.specs.declared.fault.TagFault.TheVariants.{NoInstruction, Overflow}
use Rattle.jm_values.specs.declared.value.Value.TheVariants.{Ref}
use Rattle.jm_values.specs.Content.{Content}
use Rattle.jm_world.specs.Classes.{method_named}
use Rattle.jm_world.specs.Frames.{Frame, method_frame, initialization_frame, entry_frame}
use Rattle.jm_world.specs.Hierarchy.{is_subclass}
use Rattle.jm_world.specs.Monitors.{leave_if}
use Rattle.jm_world.specs.Next.{Next, faults}
use Rattle.jm_world.specs.Throwing.{handle, handler_in, handlers_of, unwound_anew}
use Rattle.jm_world.specs.Types.{ObjectType, instance_of, array_of}
use Rattle.jm_world.specs.World.{World, Thread, Ending, with_state}
use Rattle.jm_world.specs.declared.class_state.ClassState.TheVariants.{Failed}
use Rattle.jm_heap.specs.declared.class_id.ClassId.{ClassId}
use Rattle.jm_heap.specs.declared.class_id.ClassId.TheVariants as mark
use Rattle.jm_linked.specs.Links as linked
use Rattle.jm_linked.specs.Links.{LinkedView, name_of_number}
use Rattle.jm_linked.specs.declared.method.LinkedHandler.{LinkedHandler}
use Rattle.jm_state.specs.declared.state.State.{State}
use Rattle.jm_state.specs.declared.thread.StackFrame.{StackFrame}
use Rattle.jm_state.specs.declared.thread.StackFrame.TheVariants.{Method, Initialization, Entry}
use Rattle.jm_state.specs.declared.thread.Thread as held
use Rattle.jm_interp.specs.declared.at.At.{At}
use Rattle.jm_interp.specs.At.{OnThread, in_method}
use Rattle.jm_interp.specs.Ending.{unwound_to}
use Rattle.jm_interp.specs.Standing.{ThreadRest, Stands}

-- there is a class of the number with which the object is marked
abbrev pub IsKnown : List ClassParts → ClassId → Type 0
IsKnown program (mark.Instance class) = class < length the_builtins + length program
IsKnown program (mark.Array component) = Unit {0}

-- objects of the type are of the class, or of one below it
abbrev pub is_of : List ClassParts → ObjectType → List ℕ → Bool
is_of program (instance_of class) above = is_subclass program class above
is_of program (array_of component) above = false

-- where the first of these handlers begins that catches an exception of the type at an instruction
abbrev pub target_among : World → List ClassParts → ℕ → ObjectType → List LinkedHandler → Option ℕ
target_among w program index type handlers = option_map (λ h. h.target) (handler_in w index type (map (linked.handler_in program) handlers))

-- where the first handler of a method begins that catches an exception of the type at an instruction
abbrev pub target_in : World → LinkedView → ℕ → ℕ → ObjectType → Option ℕ
target_in w l method index type = option_map (λ h. h.target) (handler_in w index type (handlers_of (method_named w.program (name_of_number l method))))

-- the same of the top frame, where a method runs in it
abbrev pub target_on_top : World → LinkedView → ObjectType → List StackFrame → Option ℕ
target_on_top w l type [] = None
target_on_top w l type (Method f ∷ fs) = target_in w l f.method f.activation.at type
target_on_top w l type (Initialization class stage ∷ fs) = None
target_on_top w l type (Entry ∷ fs) = None

-- a reference stands alone among the operands of the top frame, which is at the handler, and no
-- exception is pending; or nothing has changed, since `max_stack` has no room for it (JVMS 2.6.2)
abbrev pub Caught : Result (Unit {0}) TagFault → held.Thread → ℕ → ℕ → FrameView → List StackFrame → ThreadRest → Type 0
Caught (Ok done) new place target f below r =
    (1 ≤ f.activation.max_stack) × Stands new (Method (gone_to (with_stack f (Ref place ∷ [])) target) ∷ below) (record r { pending = None })
Caught (Err fault) new place target f below r = (f.activation.max_stack ≡ 0) × (fault ≡ Overflow) × Stands new (Method f ∷ below) r

-- the thread runs, with a method's frame on top and this exception pending
pub record InThrowing {H : Type 0} (content : H → Content ClassId) (at : At) (s : State H) (place : ℕ) : Type 0 where
  pub frame : FrameView
  pub below : List StackFrame
  pub on : OnThread content at s (Method frame ∷ below) (Some place)

-- the top frame's method handles the exception that is pending
abbrev pub handles_pending : Handler → World → ℕ → Thread → Option ℕ → Next
handles_pending handler w number t None = faults NoInstruction
handles_pending handler w number t (Some k) = in_method (λ here. handle w number t here.method here.frame here.monitor here.below k handler) w number t

abbrev pub handles : Handler → World → ℕ → Thread → Next
handles handler w number t = handles_pending handler w number t t.pending

-- the object whose monitor the top frame's method entered, if it entered one
abbrev pub monitor_on_top : List StackFrame → Option ℕ
monitor_on_top [] = None
monitor_on_top (Method f ∷ fs) = f.monitor
monitor_on_top (Initialization class stage ∷ fs) = None
monitor_on_top (Entry ∷ fs) = None

-- the same in the model
abbrev pub monitor_of : List Frame → Option ℕ
monitor_of [] = None
monitor_of (method_frame m a monitor ∷ fs) = monitor
monitor_of (initialization_frame class stage ∷ fs) = None
monitor_of (entry_frame ∷ fs) = None

-- the top frame is dropped, and its monitor is left, if it has one: a thread that does not own it has a
-- new IllegalMonitorStateException in the place of the pending exception
abbrev pub dropped_by : Ending → World → ℕ → Thread → Next
dropped_by ending w number t = elim (leave_if w number (monitor_of t.frames)) [
  | Some left ↦ unwound_to left number t (drop 1 t.frames) ending
  | None ↦ unwound_anew w w number t (drop 1 t.frames) (codes "java/lang/IllegalMonitorStateException")
]

-- the top frame, an initialization's, is dropped, and the class has failed: an exception that is no
-- Error gives its place to a new ExceptionInInitializerError (JVMS 5.5)
abbrev pub failed_by : Bool → List ℕ → Ending → World → ℕ → Thread → Next
failed_by true class ending w number t = unwound_to (with_state w class Failed) number t (drop 1 t.frames) ending
failed_by false class ending w number t =
    unwound_anew w (with_state w class Failed) number t (drop 1 t.frames) (codes "java/lang/ExceptionInInitializerError")
