-- What an instruction found that met a fault, and what it wanted.
use Rattle.std.specs.Prelude.{ℕ, List, [], ◌++◌, Option, Some, None, Bool, true, false, codes, length, nat_eq, slice_get, if◌then◌else◌}
use Rattle.std.specs.Fmt.{decimal}
use Rattle.jm_program.specs.JasminTypes.{method_line}
use Rattle.jm_program.specs.declared.class.Method.{Method}
use Rattle.jm_program.specs.declared.code.Code.{Code}
use Rattle.jm_program.specs.declared.instruction.symbolic.Instr.{Instr}
use Rattle.jm_program.specs.declared.instruction.symbolic.Instr.TheVariants as instr
use Rattle.jm_values.specs.Activation.{Activation}
use Rattle.jm_values.specs.declared.fault.TagFault.{TagFault}
use Rattle.jm_values.specs.declared.fault.TagFault.TheVariants as fault
use Rattle.jm_values.specs.declared.value.Value.{Value}
use Rattle.jm_world.specs.Classes.{method_named}
use Rattle.jm_world.specs.Frames.{Frame, method_frame, initialization_frame, entry_frame}
use Rattle.jm_world.specs.Stepping.{instruction_in}
use Rattle.jm_world.specs.World.{World}
use Rattle.jm_debug.specs.Texts.{value_text}
use Rattle.jm_trace.specs.Doings.{operands_text}
use Rattle.jm_why.specs.Locals.{local_of}
use Rattle.jm_why.specs.Needs.{needs}

-- ---- what was found

-- a local variable: there is none of that number, it is not set, or its value
abbrev pub local_text : ℕ → Option (Option Value) → List ℕ
local_text n None = codes ", no local variable " ++ (decimal n ++ codes " (.limit locals)")
local_text n (Some None) = codes ", local variable " ++ (decimal n ++ codes " not set")
local_text n (Some (Some v)) = codes ", local variable " ++ (decimal n ++ (codes " is " ++ value_text v))

-- the one that an instruction names, if it names one
abbrev pub found_local : List (Option Value) → Option ℕ → List ℕ
found_local locals None = []
found_local locals (Some n) = local_text n (slice_get locals n)

abbrev pub local_in : Option Instr → Option ℕ
local_in None = None
local_in (Some i) = local_of i

abbrev pub found_operands : List Value → List ℕ
found_operands stack = if nat_eq (length stack) 0 then codes " no operand" else operands_text stack

-- the operands, the lowest first, and the local variable
abbrev pub found_text : Activation → Option Instr → List ℕ
found_text a i = found_operands a.stack ++ found_local a.locals (local_in i)

-- ---- what was wanted

-- a return is one of its method's kind (JVMS 6.5 ireturn)
abbrev pub return_note : Option Method → List ℕ
return_note None = []
return_note (Some m) = codes "; the method is of type " ++ method_line m.descriptor

abbrev pub is_return : Instr → Bool
is_return (instr.Return op) = true
is_return (instr.Plain op) = false
is_return (instr.Array op) = false
is_return instr.Throw = false
is_return (instr.Monitor op) = false
is_return (instr.Constant c) = false
is_return (instr.Field op f) = false
is_return (instr.Invoke op r) = false
is_return (instr.New class) = false
is_return (instr.Type op t) = false

abbrev pub needs_of : Option Method → Option Instr → List ℕ
needs_of m None = codes "an instruction"
needs_of m (Some i) = if is_return i then needs i ++ return_note m else needs i

-- the room on the operand stack that a method says (JVMS 4.7.3)
abbrev pub max_stack_of : Option Code → ℕ
max_stack_of None = 0
max_stack_of (Some code) = code.max_stack

abbrev pub room_of : Option Method → List ℕ
room_of None = []
room_of (Some m) = codes "no more than max_stack " ++ (decimal (max_stack_of m.code) ++ codes " (.limit stack)")

-- in a frame
abbrev pub room_in : World → Option Frame → List ℕ
room_in w None = []
room_in w (Some (method_frame m a monitor)) = room_of (method_named w.program m)
room_in w (Some (initialization_frame class stage)) = []
room_in w (Some entry_frame) = []

-- a result is pushed onto the operands of the caller, whose frame is the next one (JVMS 2.6.4)
abbrev pub caller_room : World → Option Frame → List ℕ
caller_room w caller = codes "in the caller " ++ room_in w caller

abbrev pub room_text : World → Option Method → Option Instr → Option Frame → List ℕ
room_text w m None caller = room_of m
room_text w m (Some i) caller = if is_return i then caller_room w caller else room_of m

-- by the fault: what the instruction takes, or room on the operand stack
abbrev pub wanted_by : World → TagFault → Option Method → Option Instr → Option Frame → List ℕ
wanted_by w fault.WrongTag m i caller = needs_of m i
wanted_by w fault.WrongKind m i caller = needs_of m i
wanted_by w fault.Underflow m i caller = needs_of m i
wanted_by w fault.Overflow m i caller = room_text w m i caller
wanted_by w fault.BadLocal m i caller = needs_of m i
wanted_by w fault.NoInstruction m i caller = codes "an instruction"
wanted_by w fault.MonitorCount m i caller = codes "a monitor that was entered less often"

abbrev pub found_and_wanted : World → TagFault → Option Method → Activation → Option Instr → Option Frame → List ℕ
found_and_wanted w fault m a i caller = codes "found" ++ found_text a i ++ (codes "\nwanted " ++ (wanted_by w fault m i caller ++ codes "\n"))

-- in the top frame, and with the next one
abbrev pub wanted_in : World → TagFault → Option Frame → Option Frame → List ℕ
wanted_in w fault (Some (method_frame m a monitor)) caller =
    found_and_wanted w fault (method_named w.program m) a (instruction_in (method_named w.program m) a.at) caller
wanted_in w fault (Some (initialization_frame class stage)) caller = []
wanted_in w fault (Some entry_frame) caller = []
wanted_in w fault None caller = []
