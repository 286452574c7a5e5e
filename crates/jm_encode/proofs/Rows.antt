-- The byte of each opcode stands for that opcode in the table.
use Rattle.std.proofs.Common.{◌≡◌, ℕ, Some, Ok, refl}
use Rattle.jm_program.specs.declared.instruction.plain.Simple.{Simple}
use Rattle.jm_program.specs.declared.instruction.plain.Simple.TheVariants as simple
use Rattle.jm_program.specs.declared.instruction.operation.OperandType.{OperandType}
use Rattle.jm_program.specs.declared.instruction.operation.OperandType.TheVariants as operand
use Rattle.jm_program.specs.declared.instruction.operation.Integral.TheVariants as integral
use Rattle.jm_program.specs.declared.instruction.operation.ShortIndex.TheVariants as short
use Rattle.jm_program.specs.declared.instruction.operation.SmallInt.TheVariants as int
use Rattle.jm_program.specs.declared.instruction.operation.SmallLong.TheVariants as long
use Rattle.jm_program.specs.declared.instruction.operation.StackOp.TheVariants as stack_op
use Rattle.jm_program.specs.declared.instruction.operation.Arithmetic.TheVariants as arithmetic
use Rattle.jm_program.specs.declared.instruction.operation.Shift.TheVariants as shift
use Rattle.jm_program.specs.declared.instruction.operation.Bitwise.TheVariants as bitwise
use Rattle.jm_program.specs.declared.instruction.operation.Conversion.TheVariants as conversion
use Rattle.jm_program.specs.declared.instruction.operation.Comparison.TheVariants as comparison
use Rattle.jm_program.specs.declared.instruction.operation.Equality.TheVariants as equality
use Rattle.jm_program.specs.declared.instruction.operation.Branch.{Branch}
use Rattle.jm_program.specs.declared.instruction.operation.Branch.TheVariants as branch
use Rattle.jm_program.specs.declared.instruction.operation.ArrayKind.{ArrayKind}
use Rattle.jm_program.specs.declared.instruction.operation.ArrayKind.TheVariants as elements
use Rattle.jm_program.specs.declared.instruction.operation.ArrayOp.TheVariants as array
use Rattle.jm_program.specs.declared.instruction.operation.ReturnOp.{ReturnOp}
use Rattle.jm_program.specs.declared.instruction.operation.ReturnOp.TheVariants as return
use Rattle.jm_program.specs.declared.instruction.operation.MonitorOp.{MonitorOp}
use Rattle.jm_program.specs.declared.instruction.operation.MonitorOp.TheVariants as monitor
use Rattle.jm_program.specs.declared.instruction.operation.FieldOp.{FieldOp}
use Rattle.jm_program.specs.declared.instruction.operation.FieldOp.TheVariants as field
use Rattle.jm_program.specs.declared.instruction.operation.InvokeOp.TheVariants as invoke
use Rattle.jm_program.specs.declared.instruction.operation.PrimitiveType.{PrimitiveType}
use Rattle.jm_program.specs.declared.instruction.operation.PrimitiveType.TheVariants as primitive
use Rattle.jm_program.specs.declared.instruction.operation.TypeOp.{TypeOp}
use Rattle.jm_program.specs.declared.instruction.operation.TypeOp.TheVariants as type
use Rattle.jm_class_format.specs.declared.opcode.Opcode.{Opcode}
use Rattle.jm_class_format.specs.declared.opcode.Opcode.TheVariants as opcode
use Rattle.jm_class_format.specs.Opcodes.{constants, loads, stores, stack, math, conversions, comparisons, control, references, extended, type_opcode, opcode_at}
use Rattle.jm_class_format.specs.Instructions.{element_at}
use Rattle.jm_encode.specs.OpcodeBytes.{int_byte, long_byte, load_byte, store_byte, short_load_byte, short_store_byte, stack_byte, arithmetic_byte, negate_byte, shift_byte, bitwise_byte, conversion_byte, simple_byte, if_byte, if_ints_byte, if_references_byte, if_null_byte, branch_byte, array_load_byte, array_store_byte, element_code, return_byte, monitor_byte, field_byte, invoke_byte, type_byte}

pub simple_row : (s : Simple) → opcode_at (simple_byte s) ≡ Some (opcode.Simple s)
unfolding opcode_at constants loads stores stack math conversions comparisons simple_byte int_byte long_byte short_load_byte short_store_byte stack_byte arithmetic_byte negate_byte shift_byte bitwise_byte conversion_byte
simple_row simple.Nop = refl
simple_row simple.Null = refl
simple_row (simple.IntConstant int.MinusOne) = refl
simple_row (simple.IntConstant int.Zero) = refl
simple_row (simple.IntConstant int.One) = refl
simple_row (simple.IntConstant int.Two) = refl
simple_row (simple.IntConstant int.Three) = refl
simple_row (simple.IntConstant int.Four) = refl
simple_row (simple.IntConstant int.Five) = refl
simple_row (simple.LongConstant long.Zero) = refl
simple_row (simple.LongConstant long.One) = refl
simple_row (simple.Load operand.Int short.Zero) = refl
simple_row (simple.Load operand.Int short.One) = refl
simple_row (simple.Load operand.Int short.Two) = refl
simple_row (simple.Load operand.Int short.Three) = refl
simple_row (simple.Load operand.Long short.Zero) = refl
simple_row (simple.Load operand.Long short.One) = refl
simple_row (simple.Load operand.Long short.Two) = refl
simple_row (simple.Load operand.Long short.Three) = refl
simple_row (simple.Load operand.Reference short.Zero) = refl
simple_row (simple.Load operand.Reference short.One) = refl
simple_row (simple.Load operand.Reference short.Two) = refl
simple_row (simple.Load operand.Reference short.Three) = refl
simple_row (simple.Store operand.Int short.Zero) = refl
simple_row (simple.Store operand.Int short.One) = refl
simple_row (simple.Store operand.Int short.Two) = refl
simple_row (simple.Store operand.Int short.Three) = refl
simple_row (simple.Store operand.Long short.Zero) = refl
simple_row (simple.Store operand.Long short.One) = refl
simple_row (simple.Store operand.Long short.Two) = refl
simple_row (simple.Store operand.Long short.Three) = refl
simple_row (simple.Store operand.Reference short.Zero) = refl
simple_row (simple.Store operand.Reference short.One) = refl
simple_row (simple.Store operand.Reference short.Two) = refl
simple_row (simple.Store operand.Reference short.Three) = refl
simple_row (simple.Stack stack_op.Pop) = refl
simple_row (simple.Stack stack_op.Pop2) = refl
simple_row (simple.Stack stack_op.Dup) = refl
simple_row (simple.Stack stack_op.DupX1) = refl
simple_row (simple.Stack stack_op.DupX2) = refl
simple_row (simple.Stack stack_op.Dup2) = refl
simple_row (simple.Stack stack_op.Dup2X1) = refl
simple_row (simple.Stack stack_op.Dup2X2) = refl
simple_row (simple.Stack stack_op.Swap) = refl
simple_row (simple.Arithmetic arithmetic.Add integral.Int) = refl
simple_row (simple.Arithmetic arithmetic.Add integral.Long) = refl
simple_row (simple.Arithmetic arithmetic.Sub integral.Int) = refl
simple_row (simple.Arithmetic arithmetic.Sub integral.Long) = refl
simple_row (simple.Arithmetic arithmetic.Mul integral.Int) = refl
simple_row (simple.Arithmetic arithmetic.Mul integral.Long) = refl
simple_row (simple.Arithmetic arithmetic.Div integral.Int) = refl
simple_row (simple.Arithmetic arithmetic.Div integral.Long) = refl
simple_row (simple.Arithmetic arithmetic.Rem integral.Int) = refl
simple_row (simple.Arithmetic arithmetic.Rem integral.Long) = refl
simple_row (simple.Negate integral.Int) = refl
simple_row (simple.Negate integral.Long) = refl
simple_row (simple.Shift shift.Left integral.Int) = refl
simple_row (simple.Shift shift.Left integral.Long) = refl
simple_row (simple.Shift shift.Right integral.Int) = refl
simple_row (simple.Shift shift.Right integral.Long) = refl
simple_row (simple.Shift shift.UnsignedRight integral.Int) = refl
simple_row (simple.Shift shift.UnsignedRight integral.Long) = refl
simple_row (simple.Bitwise bitwise.And integral.Int) = refl
simple_row (simple.Bitwise bitwise.And integral.Long) = refl
simple_row (simple.Bitwise bitwise.Or integral.Int) = refl
simple_row (simple.Bitwise bitwise.Or integral.Long) = refl
simple_row (simple.Bitwise bitwise.Xor integral.Int) = refl
simple_row (simple.Bitwise bitwise.Xor integral.Long) = refl
simple_row (simple.Convert conversion.IntToLong) = refl
simple_row (simple.Convert conversion.LongToInt) = refl
simple_row (simple.Convert conversion.IntToByte) = refl
simple_row (simple.Convert conversion.IntToChar) = refl
simple_row (simple.Convert conversion.IntToShort) = refl
simple_row simple.CompareLongs = refl

pub load_row : (kind : OperandType) → opcode_at (load_byte kind) ≡ Some (opcode.Load kind)
unfolding opcode_at loads load_byte
load_row operand.Int = refl
load_row operand.Long = refl
load_row operand.Reference = refl

pub store_row : (kind : OperandType) → opcode_at (store_byte kind) ≡ Some (opcode.Store kind)
unfolding opcode_at stores store_byte
store_row operand.Int = refl
store_row operand.Long = refl
store_row operand.Reference = refl

-- goto_w has 32 bits, and every other branch 16
abbrev pub branch_opcode : Branch → Opcode
branch_opcode branch.GotoW = opcode.BranchWide branch.GotoW
branch_opcode b = opcode.Branch b

pub branch_row : (b : Branch) → opcode_at (branch_byte b) ≡ Some (branch_opcode b)
unfolding opcode_at comparisons control extended if_byte if_ints_byte if_references_byte if_null_byte branch_byte
branch_row (branch.If comparison.Equal) = refl
branch_row (branch.If comparison.NotEqual) = refl
branch_row (branch.If comparison.Less) = refl
branch_row (branch.If comparison.GreaterOrEqual) = refl
branch_row (branch.If comparison.Greater) = refl
branch_row (branch.If comparison.LessOrEqual) = refl
branch_row (branch.IfInts comparison.Equal) = refl
branch_row (branch.IfInts comparison.NotEqual) = refl
branch_row (branch.IfInts comparison.Less) = refl
branch_row (branch.IfInts comparison.GreaterOrEqual) = refl
branch_row (branch.IfInts comparison.Greater) = refl
branch_row (branch.IfInts comparison.LessOrEqual) = refl
branch_row (branch.IfReferences equality.Equal) = refl
branch_row (branch.IfReferences equality.NotEqual) = refl
branch_row (branch.IfNull equality.Equal) = refl
branch_row (branch.IfNull equality.NotEqual) = refl
branch_row branch.Goto = refl
branch_row branch.GotoW = refl

pub array_load_row : (kind : ArrayKind) → opcode_at (array_load_byte kind) ≡ Some (opcode.Array (array.Load kind))
unfolding opcode_at loads array_load_byte
array_load_row elements.Int = refl
array_load_row elements.Long = refl
array_load_row elements.Reference = refl
array_load_row elements.Byte = refl
array_load_row elements.Char = refl
array_load_row elements.Short = refl

pub array_store_row : (kind : ArrayKind) → opcode_at (array_store_byte kind) ≡ Some (opcode.Array (array.Store kind))
unfolding opcode_at stores array_store_byte
array_store_row elements.Int = refl
array_store_row elements.Long = refl
array_store_row elements.Reference = refl
array_store_row elements.Byte = refl
array_store_row elements.Char = refl
array_store_row elements.Short = refl

pub return_row : (op : ReturnOp) → opcode_at (return_byte op) ≡ Some (opcode.Return op)
unfolding opcode_at control return_byte
return_row return.Int = refl
return_row return.Long = refl
return_row return.Reference = refl
return_row return.Void = refl

pub monitor_row : (op : MonitorOp) → opcode_at (monitor_byte op) ≡ Some (opcode.Monitor op)
unfolding opcode_at references monitor_byte
monitor_row monitor.Enter = refl
monitor_row monitor.Exit = refl

pub field_row : (op : FieldOp) → opcode_at (field_byte op) ≡ Some (opcode.Field op)
unfolding opcode_at references field_byte
field_row field.GetStatic = refl
field_row field.PutStatic = refl
field_row field.GetField = refl
field_row field.PutField = refl

pub type_row : (op : TypeOp) → opcode_at (type_byte op) ≡ Some (type_opcode op)
unfolding opcode_at references extended type_byte
type_row type.NewArray = refl
type_row (type.NewArrays d) = refl
type_row type.CheckCast = refl
type_row type.InstanceOf = refl

-- the opcodes that stand alone
pub push_byte_row : opcode_at 16 ≡ Some opcode.PushByte
unfolding opcode_at constants
push_byte_row = refl

pub push_short_row : opcode_at 17 ≡ Some opcode.PushShort
unfolding opcode_at constants
push_short_row = refl

pub load_constant_row : opcode_at 18 ≡ Some opcode.LoadConstant
unfolding opcode_at constants
load_constant_row = refl

pub load_constant_wide_row : opcode_at 19 ≡ Some opcode.LoadConstantWide
unfolding opcode_at constants
load_constant_wide_row = refl

pub load_long_row : opcode_at 20 ≡ Some opcode.LoadLong
unfolding opcode_at constants
load_long_row = refl

pub increment_row : opcode_at 132 ≡ Some opcode.Increment
unfolding opcode_at math
increment_row = refl

pub table_switch_row : opcode_at 170 ≡ Some opcode.TableSwitch
unfolding opcode_at control
table_switch_row = refl

pub lookup_switch_row : opcode_at 171 ≡ Some opcode.LookupSwitch
unfolding opcode_at control
lookup_switch_row = refl

pub interface_row : opcode_at 185 ≡ Some opcode.InvokeInterface
unfolding opcode_at references
interface_row = refl

pub new_row : opcode_at 187 ≡ Some opcode.New
unfolding opcode_at references
new_row = refl

pub new_array_row : opcode_at 188 ≡ Some opcode.NewArray
unfolding opcode_at references
new_array_row = refl

pub length_row : opcode_at 190 ≡ Some (opcode.Array array.Length)
unfolding opcode_at references
length_row = refl

pub throw_row : opcode_at 191 ≡ Some opcode.Throw
unfolding opcode_at references
throw_row = refl

pub wide_row : opcode_at 196 ≡ Some opcode.Wide
unfolding opcode_at extended
wide_row = refl

pub virtual_row : opcode_at (invoke_byte invoke.Virtual) ≡ Some (opcode.Invoke invoke.Virtual)
unfolding opcode_at references invoke_byte
virtual_row = refl

pub special_row : opcode_at (invoke_byte invoke.Special) ≡ Some (opcode.Invoke invoke.Special)
unfolding opcode_at references invoke_byte
special_row = refl

pub static_row : opcode_at (invoke_byte invoke.Static) ≡ Some (opcode.Invoke invoke.Static)
unfolding opcode_at references invoke_byte
static_row = refl

-- the code of an element type stands for that type
pub element_row : (at : ℕ) (element : PrimitiveType) → element_at at (element_code element) ≡ Ok element
unfolding element_at element_code
element_row at primitive.Boolean = refl
element_row at primitive.Char = refl
element_row at primitive.Byte = refl
element_row at primitive.Short = refl
element_row at primitive.Int = refl
element_row at primitive.Long = refl
