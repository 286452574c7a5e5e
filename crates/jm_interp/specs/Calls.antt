-- Calls of methods that have code.
use Rattle.std.specs.Prelude.{◌≡◌, ◌≤◌, ◌+◌, [], ◌∷◌, ℕ, List, reverse, Option, Some, None, drop, length, slice_get}
use Rattle.jm_program.specs.Fits.{Fits}
use Rattle.jm_program.specs.declared.class.ClassParts.{ClassParts}
use Rattle.jm_program.specs.declared.class.Method.{Method as Declared}
use Rattle.jm_program.specs.declared.code.Code.{Code}
use Rattle.jm_program.specs.declared.descriptor.FieldType.{FieldType}
use Rattle.jm_builtins.specs.List.{the_builtins}
use Rattle.jm_frames.specs.FrameView.{FrameView}
use Rattle.jm_values.specs.Content.{Content}
use Rattle.jm_values.specs.Rename.{stack_shape}
use Rattle.jm_values.specs.Shape.{Among}
use Rattle.jm_world.specs.Frames.{optional_number_shape}
use Rattle.jm_world.specs.Classes.{FoundMethod, name_of_method}
use Rattle.jm_world.specs.Here.{Here, with_arguments}
use Rattle.jm_world.specs.Invocation.{call_code, call_static, locals_of}
use Rattle.jm_world.specs.Next.{Next}
use Rattle.jm_state.specs.Arguments.{on_top}
use Rattle.jm_state.specs.declared.arguments.Callee.{Callee}
use Rattle.jm_heap.specs.declared.class_id.ClassId.{ClassId}
use Rattle.jm_linked.specs.Links.{LinkedView, linked_name}
use Rattle.jm_linked.specs.declared.instruction.MemberNumber.{MemberNumber}
use Rattle.jm_linked.specs.declared.method.LinkedMethod.{LinkedMethod}
use Rattle.jm_state.specs.declared.state.State.{State}
use Rattle.jm_state.specs.declared.thread.StackFrame.{StackFrame}
use Rattle.jm_state.specs.declared.thread.StackFrame.TheVariants.{Method}
use Rattle.jm_state.specs.declared.thread.Thread as held
use Rattle.jm_interp.specs.declared.at.At.{At}
use Rattle.jm_interp.specs.At.{InMethod}
use Rattle.jm_interp.specs.Standing.{ThreadRest, Stands}

-- the method of a number is that one, with that code, of which a call asks the limits alone
pub record IsCalled (l : LinkedView) (number : ℕ) (found : FoundMethod) (code : Code) : Type 0 where
  pub method : LinkedMethod
  pub method_is : slice_get l.methods number ≡ Some method
  pub named : linked_name l.program method ≡ name_of_method found
  pub max_stack : method.max_stack ≡ code.max_stack
  pub max_locals : method.max_locals ≡ code.max_locals

-- so many operands are on top of a frame, and the method has room for them as its arguments
pub record HasArguments (l : LinkedView) (number count : ℕ) (frame : FrameView) : Type 0 where
  pub method : LinkedMethod
  pub method_is : slice_get l.methods number ≡ Some method
  pub enough : count ≤ length frame.activation.stack
  pub fits : length (locals_of (on_top count frame.activation.stack)) ≤ method.max_locals

-- a method's frame with them is on top of the thread, and of the thread that runs
pub record ThreadCalls (l : LinkedView) (number count : ℕ) (t : held.Thread) : Type 0 where
  pub frame : FrameView
  pub below : List StackFrame
  pub rest : ThreadRest
  pub stands : Stands t (Method frame ∷ below) rest
  pub has : HasArguments l number count frame

-- the monitor that the method enters is that of an operand, if it enters one
abbrev pub IsOperand : FrameView → Option ℕ → Type 0
IsOperand frame monitor = (q : ℕ) → Among q (optional_number_shape.refs monitor) → Among q (stack_shape.refs frame.activation.stack)

pub record MayCall {H : Type 0} (content : H → Content ClassId) (at : At) (s : State H) (number count : ℕ) (monitor : Option ℕ) : Type 0 where
  pub on : InMethod content at s
  pub has : HasArguments at.linked.now number count on.frame
  pub operand : IsOperand on.frame monitor

-- the model's call, with so many operands on top as its arguments, of a method that enters this monitor, if it enters one
abbrev pub calls_with : FoundMethod → Code → ℕ → Option ℕ → Here → Next
calls_with found code count monitor here = call_code here found code (on_top count here.frame.stack) monitor (drop count here.frame.stack)

-- how a method's frame is made
abbrev pub callee_with : ℕ → LinkedMethod → Option ℕ → Callee
callee_with number m monitor = record { method = number; monitor = monitor; max_stack = m.max_stack; max_locals = m.max_locals }

-- of one that enters no monitor
abbrev pub callee_of : ℕ → LinkedMethod → Callee
callee_of number m = callee_with number m None

-- the linked method of a number is the one that a class declares, the classes numbered with the
-- built-in ones first
pub record IsCodeOf (l : LinkedView) (n : MemberNumber) (number : ℕ) : Type 0 where
  pub method : LinkedMethod
  pub method_is : slice_get l.methods number ≡ Some method
  pub class_is : n.class ≡ method.class + length the_builtins
  pub member_is : n.member ≡ method.member

-- the parameters of the linked method of a number, as its class declares it
pub record HasParameters (l : LinkedView) (number : ℕ) (parameters : List FieldType) : Type 0 where
  pub method : LinkedMethod
  pub method_is : slice_get l.methods number ≡ Some method
  pub class : ClassParts
  pub class_is : slice_get l.program method.class ≡ Some class
  pub declared : Declared
  pub declared_is : slice_get class.methods method.member ≡ Some declared
  pub parameters_are : declared.descriptor.parameters ≡ parameters
  pub fits : Fits class

-- the model's call of a static method whose class is initialized
abbrev pub calls_static : List FieldType → FoundMethod → Here → Next
calls_static parameters found here = with_arguments (reverse parameters) [] here.frame.stack (λ arguments s.
    call_static here found arguments s found.method.code)
