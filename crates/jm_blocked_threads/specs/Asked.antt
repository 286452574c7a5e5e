-- What a thread asks for that is blocked: the monitor of an object, or the initialization of a class.
use Rattle.std.specs.Prelude.{ℕ, List, [], ◌∷◌, Option, Some, None, length, option_map, slice_get}
use Rattle.jm_program.specs.declared.class.ClassParts.{ClassParts}
use Rattle.jm_program.specs.declared.instruction.symbolic.Instr.{Instr}
use Rattle.jm_program.specs.declared.instruction.symbolic.Instr.TheVariants as instr
use Rattle.jm_program.specs.declared.instruction.operation.InvokeOp.{InvokeOp}
use Rattle.jm_program.specs.declared.instruction.operation.InvokeOp.TheVariants.{Virtual, Special, Static, Interface}
use Rattle.jm_program.specs.declared.instruction.operation.MonitorOp.{MonitorOp}
use Rattle.jm_program.specs.declared.instruction.operation.MonitorOp.TheVariants.{Enter, Exit}
use Rattle.jm_values.specs.declared.value.Value.{Value}
use Rattle.jm_values.specs.declared.value.Value.TheVariants as value
use Rattle.jm_world.specs.Classes.{method_named}
use Rattle.jm_world.specs.Frames.{Frame, method_frame, initialization_frame, entry_frame}
use Rattle.jm_world.specs.Stepping.{instruction_in}

-- the monitor of an object (JVMS 2.11.10), or the initialization of a class (JVMS 5.5)
pub data Need : Type 0 where
  entering : ℕ → Need
  initializing : List ℕ → Need

-- the object of an operand
abbrev pub object_of : Option Value → Option ℕ
object_of None = None
object_of (Some (value.Int n)) = None
object_of (Some (value.Long n)) = None
object_of (Some value.Null) = None
object_of (Some (value.Ref k)) = Some k

-- of a call: the receiver, which lies below so many arguments; a static method has none
abbrev pub asked_by_call : InvokeOp → List Value → ℕ → Option ℕ
asked_by_call Virtual stack arguments = object_of (slice_get stack arguments)
asked_by_call Special stack arguments = object_of (slice_get stack arguments)
asked_by_call Static stack arguments = None
asked_by_call Interface stack arguments = object_of (slice_get stack arguments)

abbrev pub asked_by_monitor : MonitorOp → List Value → Option ℕ
asked_by_monitor Enter stack = object_of (slice_get stack 0)
asked_by_monitor Exit stack = None

-- the object whose monitor an instruction asks for
abbrev pub asked_by_instruction : List Value → Option Instr → Option ℕ
asked_by_instruction stack None = None
asked_by_instruction stack (Some (instr.Monitor op)) = asked_by_monitor op stack
asked_by_instruction stack (Some (instr.Invoke op m)) = asked_by_call op stack (length m.descriptor.parameters)
asked_by_instruction stack (Some (instr.Plain op)) = None
asked_by_instruction stack (Some (instr.Array op)) = None
asked_by_instruction stack (Some (instr.Return op)) = None
asked_by_instruction stack (Some instr.Throw) = None
asked_by_instruction stack (Some (instr.Constant c)) = None
asked_by_instruction stack (Some (instr.Field op f)) = None
asked_by_instruction stack (Some (instr.New class)) = None
asked_by_instruction stack (Some (instr.Type op t)) = None

-- of a frame at the top: such an object, or a class whose initialization another thread makes. A thread's entry asks for
-- the monitor of the thread's object, which no view of the debugger tells
abbrev pub asked_by : List ClassParts → Frame → Option Need
asked_by program (method_frame m a monitor) = option_map entering (asked_by_instruction a.stack (instruction_in (method_named program m) a.at))
asked_by program (initialization_frame class stage) = Some (initializing class)
asked_by program entry_frame = None

abbrev pub asked_by_top : List ClassParts → List Frame → Option Need
asked_by_top program [] = None
asked_by_top program (f ∷ fs) = asked_by program f
