-- What an instruction takes (JVMS 6.5), in words: operands with the lowest first, and local variables.
use Rattle.std.specs.Prelude.{ℕ, List, [], ◌++◌, codes}
use Rattle.std.specs.Fmt.{decimal}
use Rattle.jm_program.specs.JasminTypes.{class_line, method_line, type_line}
use Rattle.jm_program.specs.Mnemonics.{index_digit}
use Rattle.jm_program.specs.declared.instruction.operation.ArrayKind.{ArrayKind}
use Rattle.jm_program.specs.declared.instruction.operation.ArrayKind.TheVariants as kind
use Rattle.jm_program.specs.declared.instruction.operation.ArrayOp.{ArrayOp}
use Rattle.jm_program.specs.declared.instruction.operation.ArrayOp.TheVariants as array
use Rattle.jm_program.specs.declared.instruction.operation.Branch.{Branch}
use Rattle.jm_program.specs.declared.instruction.operation.Branch.TheVariants as branch
use Rattle.jm_program.specs.declared.instruction.operation.Conversion.{Conversion}
use Rattle.jm_program.specs.declared.instruction.operation.Conversion.TheVariants as conversion
use Rattle.jm_program.specs.declared.instruction.operation.FieldOp.{FieldOp}
use Rattle.jm_program.specs.declared.instruction.operation.FieldOp.TheVariants as field
use Rattle.jm_program.specs.declared.instruction.operation.Integral.{Integral}
use Rattle.jm_program.specs.declared.instruction.operation.Integral.TheVariants as integral
use Rattle.jm_program.specs.declared.instruction.operation.InvokeOp.{InvokeOp}
use Rattle.jm_program.specs.declared.instruction.operation.InvokeOp.TheVariants as invoke
use Rattle.jm_program.specs.declared.instruction.operation.OperandType.{OperandType}
use Rattle.jm_program.specs.declared.instruction.operation.OperandType.TheVariants as operand
use Rattle.jm_program.specs.declared.instruction.operation.ReturnOp.{ReturnOp}
use Rattle.jm_program.specs.declared.instruction.operation.ReturnOp.TheVariants as return
use Rattle.jm_program.specs.declared.instruction.operation.StackOp.{StackOp}
use Rattle.jm_program.specs.declared.instruction.operation.StackOp.TheVariants as stack
use Rattle.jm_program.specs.declared.instruction.operation.TypeOp.{TypeOp}
use Rattle.jm_program.specs.declared.instruction.operation.TypeOp.TheVariants as type_op
use Rattle.jm_program.specs.declared.instruction.plain.Plain.{Plain}
use Rattle.jm_program.specs.declared.instruction.plain.Plain.TheVariants as plain
use Rattle.jm_program.specs.declared.instruction.plain.Simple.{Simple}
use Rattle.jm_program.specs.declared.instruction.plain.Simple.TheVariants as simple
use Rattle.jm_program.specs.declared.instruction.symbolic.Instr.{Instr}
use Rattle.jm_program.specs.declared.instruction.symbolic.Instr.TheVariants as instr
use Rattle.jm_program.specs.declared.reference.FieldRef.{FieldRef}
use Rattle.jm_program.specs.declared.reference.MethodRef.{MethodRef}

abbrev pub nothing : List ℕ
nothing = codes "no operand"

abbrev pub type_word : OperandType → List ℕ
type_word operand.Int = codes "int"
type_word operand.Long = codes "long"
type_word operand.Reference = codes "reference"

-- a long takes the local variable behind it too (JVMS 2.6.1)
abbrev pub behind_too : OperandType → List ℕ
behind_too operand.Int = []
behind_too operand.Long = codes " and the next"
behind_too operand.Reference = []

abbrev pub integral_word : Integral → List ℕ
integral_word integral.Int = codes "int"
integral_word integral.Long = codes "long"

abbrev pub two_words : Integral → List ℕ
two_words integral.Int = codes "int, int"
two_words integral.Long = codes "long, long"

abbrev pub shift_words : Integral → List ℕ
shift_words integral.Int = codes "int, int"
shift_words integral.Long = codes "long, int"

-- by the categories of types (JVMS 2.11.1): a long is of category 2
abbrev pub stack_words : StackOp → List ℕ
stack_words stack.Pop = codes "one that is no long"
stack_words stack.Pop2 = codes "a long or two others"
stack_words stack.Dup = codes "one that is no long"
stack_words stack.DupX1 = codes "two that are no longs"
stack_words stack.DupX2 = codes "a long or two others, one that is no long"
stack_words stack.Dup2 = codes "a long or two others"
stack_words stack.Dup2X1 = codes "one that is no long, a long or two others"
stack_words stack.Dup2X2 = codes "a long or two others, a long or two others"
stack_words stack.Swap = codes "two that are no longs"

abbrev pub conversion_word : Conversion → List ℕ
conversion_word conversion.IntToLong = codes "int"
conversion_word conversion.LongToInt = codes "long"
conversion_word conversion.IntToByte = codes "int"
conversion_word conversion.IntToChar = codes "int"
conversion_word conversion.IntToShort = codes "int"

abbrev pub simple_needs : Simple → List ℕ
simple_needs simple.Nop = nothing
simple_needs simple.Null = nothing
simple_needs (simple.IntConstant n) = nothing
simple_needs (simple.LongConstant n) = nothing
simple_needs (simple.Load t n) = type_word t ++ (codes " in local variable " ++ (index_digit n ++ behind_too t))
simple_needs (simple.Store t n) = type_word t ++ (codes ", local variable " ++ (index_digit n ++ behind_too t))
simple_needs (simple.Stack op) = stack_words op
simple_needs (simple.Arithmetic op t) = two_words t
simple_needs (simple.Negate t) = integral_word t
simple_needs (simple.Shift op t) = shift_words t
simple_needs (simple.Bitwise op t) = two_words t
simple_needs (simple.Convert op) = conversion_word op
simple_needs simple.CompareLongs = codes "long, long"

abbrev pub branch_words : Branch → List ℕ
branch_words (branch.If c) = codes "int"
branch_words (branch.IfInts c) = codes "int, int"
branch_words (branch.IfReferences e) = codes "reference, reference"
branch_words (branch.IfNull e) = codes "reference"
branch_words branch.Goto = nothing
branch_words branch.GotoW = nothing

abbrev pub plain_needs : Plain → List ℕ
plain_needs (plain.Simple op) = simple_needs op
plain_needs (plain.PushByte n) = nothing
plain_needs (plain.PushShort n) = nothing
plain_needs (plain.Load t n) = type_word t ++ (codes " in local variable " ++ (decimal n ++ behind_too t))
plain_needs (plain.Store t n) = type_word t ++ (codes ", local variable " ++ (decimal n ++ behind_too t))
plain_needs (plain.Increment n by) = codes "int in local variable " ++ decimal n
plain_needs (plain.Branch op target) = branch_words op
plain_needs (plain.TableSwitch t) = codes "int"
plain_needs (plain.LookupSwitch l) = codes "int"

abbrev pub load_words : ArrayKind → List ℕ
load_words kind.Int = codes "array of ints, int"
load_words kind.Long = codes "array of longs, int"
load_words kind.Reference = codes "array of references, int"
load_words kind.Byte = codes "array of bytes or booleans, int"
load_words kind.Char = codes "array of chars, int"
load_words kind.Short = codes "array of shorts, int"

abbrev pub store_words : ArrayKind → List ℕ
store_words kind.Int = codes "array of ints, int, int"
store_words kind.Long = codes "array of longs, int, long"
store_words kind.Reference = codes "array of references, int, reference"
store_words kind.Byte = codes "array of bytes or booleans, int, int"
store_words kind.Char = codes "array of chars, int, int"
store_words kind.Short = codes "array of shorts, int, int"

abbrev pub array_words : ArrayOp → List ℕ
array_words (array.Load k) = load_words k
array_words (array.Store k) = store_words k
array_words (array.New t) = codes "int"
array_words array.Length = codes "array"

abbrev pub return_words : ReturnOp → List ℕ
return_words return.Int = codes "int"
return_words return.Long = codes "long"
return_words return.Reference = codes "reference"
return_words return.Void = nothing

abbrev pub field_needs : FieldOp → FieldRef → List ℕ
field_needs field.GetStatic f = nothing
field_needs field.PutStatic f = type_line f.descriptor
field_needs field.GetField f = class_line f.class
field_needs field.PutField f = class_line f.class ++ codes ", " ++ type_line f.descriptor

abbrev pub invoke_needs : InvokeOp → MethodRef → List ℕ
invoke_needs invoke.Static m = codes "the arguments of " ++ method_line m.descriptor
invoke_needs invoke.Virtual m = class_line m.class ++ (codes ", the arguments of " ++ method_line m.descriptor)
invoke_needs invoke.Special m = class_line m.class ++ (codes ", the arguments of " ++ method_line m.descriptor)
invoke_needs invoke.Interface m = class_line m.class ++ (codes ", the arguments of " ++ method_line m.descriptor)

abbrev pub type_needs : TypeOp → List ℕ
type_needs type_op.NewArray = codes "int"
type_needs (type_op.NewArrays d) = decimal d ++ codes " times int"
type_needs type_op.CheckCast = codes "reference"
type_needs type_op.InstanceOf = codes "reference"

unfoldable pub needs : Instr → List ℕ
needs (instr.Plain op) = plain_needs op
needs (instr.Array op) = array_words op
needs (instr.Return op) = return_words op
needs instr.Throw = codes "java/lang/Throwable"
needs (instr.Monitor op) = codes "reference"
needs (instr.Constant c) = nothing
needs (instr.Field op f) = field_needs op f
needs (instr.Invoke op m) = invoke_needs op m
needs (instr.New class) = nothing
needs (instr.Type op t) = type_needs op
