-- Operands of a type or a category, or why there is none.
use Rattle.std.specs.Prelude.{List, [], ◌∷◌, Option, Some, None, Result, Ok, Err, ℤ, if◌then◌else◌}
use Rattle.jm_values.specs.Steps.{is_of}
use Rattle.jm_values.specs.declared.value.Value.{Value}
use Rattle.jm_values.specs.declared.value.Value.TheVariants.{Int, Long}
use Rattle.jm_values.specs.declared.fault.TagFault.{TagFault}
use Rattle.jm_values.specs.declared.fault.TagFault.TheVariants.{WrongTag, Underflow}
use Rattle.jm_program.specs.declared.instruction.operation.OperandType.{OperandType}
use Rattle.jm_frames.specs.declared.operand_stack.Group.{Group}
use Rattle.jm_frames.specs.declared.operand_stack.Group.TheVariants.{One, Two}

-- the operand, if it is of the type
abbrev pub operand_of : OperandType → Option Value → Result Value TagFault
operand_of type (Some v) = if is_of type v then Ok v else Err WrongTag
operand_of type None = Err Underflow

-- the int of an operand
abbrev pub int_of : Option Value → Result ℤ TagFault
int_of (Some (Int n)) = Ok n
int_of (Some _) = Err WrongTag
int_of None = Err Underflow

-- the long of an operand
abbrev pub long_of : Option Value → Result ℤ TagFault
long_of (Some (Long n)) = Ok n
long_of (Some _) = Err WrongTag
long_of None = Err Underflow

-- an operand of category 1
abbrev pub single_of : Option Value → Result Group TagFault
single_of (Some (Long n)) = Err WrongTag
single_of (Some v) = Ok (One v)
single_of None = Err Underflow

-- the lower of two operands of category 1, below the upper one
abbrev pub lower_of : Value → Option Value → Result Group TagFault
lower_of v (Some (Long n)) = Err WrongTag
lower_of v (Some u) = Ok (Two v u)
lower_of v None = Err Underflow

-- one operand of category 2, or two of category 1
abbrev pub double_of : Option Value → Option Value → Result Group TagFault
double_of (Some (Long n)) lower = Ok (One (Long n))
double_of (Some v) lower = lower_of v lower
double_of None lower = Err Underflow

-- the operands of a group, its top first
abbrev pub values_of : Group → List Value
values_of (One v) = v ∷ []
values_of (Two v u) = v ∷ u ∷ []
