-- The opcode of each instruction, by families (JVMS 6.5, 7).
use Rattle.std.specs.Prelude.{ℕ}
use Rattle.jm_program.specs.declared.instruction.plain.Simple.{Simple}
use Rattle.jm_program.specs.declared.instruction.plain.Simple.TheVariants as simple
use Rattle.jm_program.specs.declared.instruction.operation.OperandType.{OperandType}
use Rattle.jm_program.specs.declared.instruction.operation.OperandType.TheVariants as operand
use Rattle.jm_program.specs.declared.instruction.operation.Integral.{Integral}
use Rattle.jm_program.specs.declared.instruction.operation.Integral.TheVariants as integral
use Rattle.jm_program.specs.declared.instruction.operation.ShortIndex.{ShortIndex}
use Rattle.jm_program.specs.declared.instruction.operation.ShortIndex.TheVariants as short
use Rattle.jm_program.specs.declared.instruction.operation.SmallInt.{SmallInt}
use Rattle.jm_program.specs.declared.instruction.operation.SmallInt.TheVariants as int
use Rattle.jm_program.specs.declared.instruction.operation.SmallLong.{SmallLong}
use Rattle.jm_program.specs.declared.instruction.operation.SmallLong.TheVariants as long
use Rattle.jm_program.specs.declared.instruction.operation.StackOp.{StackOp}
use Rattle.jm_program.specs.declared.instruction.operation.StackOp.TheVariants as stack_op
use Rattle.jm_program.specs.declared.instruction.operation.Arithmetic.{Arithmetic}
use Rattle.jm_program.specs.declared.instruction.operation.Arithmetic.TheVariants as arithmetic
use Rattle.jm_program.specs.declared.instruction.operation.Shift.{Shift}
use Rattle.jm_program.specs.declared.instruction.operation.Shift.TheVariants as shift
use Rattle.jm_program.specs.declared.instruction.operation.Bitwise.{Bitwise}
use Rattle.jm_program.specs.declared.instruction.operation.Bitwise.TheVariants as bitwise
use Rattle.jm_program.specs.declared.instruction.operation.Conversion.{Conversion}
use Rattle.jm_program.specs.declared.instruction.operation.Conversion.TheVariants as conversion
use Rattle.jm_program.specs.declared.instruction.operation.Comparison.{Comparison}
use Rattle.jm_program.specs.declared.instruction.operation.Comparison.TheVariants as comparison
use Rattle.jm_program.specs.declared.instruction.operation.Equality.{Equality}
use Rattle.jm_program.specs.declared.instruction.operation.Equality.TheVariants as equality
use Rattle.jm_program.specs.declared.instruction.operation.Branch.{Branch}
use Rattle.jm_program.specs.declared.instruction.operation.Branch.TheVariants as branch
use Rattle.jm_program.specs.declared.instruction.operation.ArrayKind.{ArrayKind}
use Rattle.jm_program.specs.declared.instruction.operation.ArrayKind.TheVariants as elements
use Rattle.jm_program.specs.declared.instruction.operation.PrimitiveType.{PrimitiveType}
use Rattle.jm_program.specs.declared.instruction.operation.PrimitiveType.TheVariants as primitive
use Rattle.jm_program.specs.declared.instruction.operation.ReturnOp.{ReturnOp}
use Rattle.jm_program.specs.declared.instruction.operation.ReturnOp.TheVariants as return
use Rattle.jm_program.specs.declared.instruction.operation.MonitorOp.{MonitorOp}
use Rattle.jm_program.specs.declared.instruction.operation.MonitorOp.TheVariants as monitor
use Rattle.jm_program.specs.declared.instruction.operation.FieldOp.{FieldOp}
use Rattle.jm_program.specs.declared.instruction.operation.FieldOp.TheVariants as field
use Rattle.jm_program.specs.declared.instruction.operation.InvokeOp.{InvokeOp}
use Rattle.jm_program.specs.declared.instruction.operation.InvokeOp.TheVariants as invoke
use Rattle.jm_program.specs.declared.instruction.operation.TypeOp.{TypeOp}
use Rattle.jm_program.specs.declared.instruction.operation.TypeOp.TheVariants as type

-- ---- constants: iconst_m1 to iconst_5, lconst_0 and lconst_1

unfoldable pub int_byte : SmallInt → ℕ
int_byte int.MinusOne = 2
int_byte int.Zero = 3
int_byte int.One = 4
int_byte int.Two = 5
int_byte int.Three = 6
int_byte int.Four = 7
int_byte int.Five = 8

unfoldable pub long_byte : SmallLong → ℕ
long_byte long.Zero = 9
long_byte long.One = 10

-- ---- loads and stores

-- iload, lload and aload
unfoldable pub load_byte : OperandType → ℕ
load_byte operand.Int = 21
load_byte operand.Long = 22
load_byte operand.Reference = 25

-- istore, lstore and astore
unfoldable pub store_byte : OperandType → ℕ
store_byte operand.Int = 54
store_byte operand.Long = 55
store_byte operand.Reference = 58

-- iload_0 to iload_3, lload_0 to lload_3, aload_0 to aload_3
unfoldable pub short_load_byte : OperandType → ShortIndex → ℕ
short_load_byte operand.Int short.Zero = 26
short_load_byte operand.Int short.One = 27
short_load_byte operand.Int short.Two = 28
short_load_byte operand.Int short.Three = 29
short_load_byte operand.Long short.Zero = 30
short_load_byte operand.Long short.One = 31
short_load_byte operand.Long short.Two = 32
short_load_byte operand.Long short.Three = 33
short_load_byte operand.Reference short.Zero = 42
short_load_byte operand.Reference short.One = 43
short_load_byte operand.Reference short.Two = 44
short_load_byte operand.Reference short.Three = 45

-- istore_0 to istore_3, lstore_0 to lstore_3, astore_0 to astore_3
unfoldable pub short_store_byte : OperandType → ShortIndex → ℕ
short_store_byte operand.Int short.Zero = 59
short_store_byte operand.Int short.One = 60
short_store_byte operand.Int short.Two = 61
short_store_byte operand.Int short.Three = 62
short_store_byte operand.Long short.Zero = 63
short_store_byte operand.Long short.One = 64
short_store_byte operand.Long short.Two = 65
short_store_byte operand.Long short.Three = 66
short_store_byte operand.Reference short.Zero = 75
short_store_byte operand.Reference short.One = 76
short_store_byte operand.Reference short.Two = 77
short_store_byte operand.Reference short.Three = 78

-- ---- the operand stack

unfoldable pub stack_byte : StackOp → ℕ
stack_byte stack_op.Pop = 87
stack_byte stack_op.Pop2 = 88
stack_byte stack_op.Dup = 89
stack_byte stack_op.DupX1 = 90
stack_byte stack_op.DupX2 = 91
stack_byte stack_op.Dup2 = 92
stack_byte stack_op.Dup2X1 = 93
stack_byte stack_op.Dup2X2 = 94
stack_byte stack_op.Swap = 95

-- ---- math

unfoldable pub arithmetic_byte : Arithmetic → Integral → ℕ
arithmetic_byte arithmetic.Add integral.Int = 96
arithmetic_byte arithmetic.Add integral.Long = 97
arithmetic_byte arithmetic.Sub integral.Int = 100
arithmetic_byte arithmetic.Sub integral.Long = 101
arithmetic_byte arithmetic.Mul integral.Int = 104
arithmetic_byte arithmetic.Mul integral.Long = 105
arithmetic_byte arithmetic.Div integral.Int = 108
arithmetic_byte arithmetic.Div integral.Long = 109
arithmetic_byte arithmetic.Rem integral.Int = 112
arithmetic_byte arithmetic.Rem integral.Long = 113

unfoldable pub negate_byte : Integral → ℕ
negate_byte integral.Int = 116
negate_byte integral.Long = 117

unfoldable pub shift_byte : Shift → Integral → ℕ
shift_byte shift.Left integral.Int = 120
shift_byte shift.Left integral.Long = 121
shift_byte shift.Right integral.Int = 122
shift_byte shift.Right integral.Long = 123
shift_byte shift.UnsignedRight integral.Int = 124
shift_byte shift.UnsignedRight integral.Long = 125

unfoldable pub bitwise_byte : Bitwise → Integral → ℕ
bitwise_byte bitwise.And integral.Int = 126
bitwise_byte bitwise.And integral.Long = 127
bitwise_byte bitwise.Or integral.Int = 128
bitwise_byte bitwise.Or integral.Long = 129
bitwise_byte bitwise.Xor integral.Int = 130
bitwise_byte bitwise.Xor integral.Long = 131

unfoldable pub conversion_byte : Conversion → ℕ
conversion_byte conversion.IntToLong = 133
conversion_byte conversion.LongToInt = 136
conversion_byte conversion.IntToByte = 145
conversion_byte conversion.IntToChar = 146
conversion_byte conversion.IntToShort = 147

-- ---- all instructions of one byte that touch one frame alone

unfoldable pub simple_byte : Simple → ℕ
simple_byte simple.Nop = 0
simple_byte simple.Null = 1
simple_byte (simple.IntConstant n) = int_byte n
simple_byte (simple.LongConstant n) = long_byte n
simple_byte (simple.Load kind index) = short_load_byte kind index
simple_byte (simple.Store kind index) = short_store_byte kind index
simple_byte (simple.Stack op) = stack_byte op
simple_byte (simple.Arithmetic op kind) = arithmetic_byte op kind
simple_byte (simple.Negate kind) = negate_byte kind
simple_byte (simple.Shift op kind) = shift_byte op kind
simple_byte (simple.Bitwise op kind) = bitwise_byte op kind
simple_byte (simple.Convert op) = conversion_byte op
simple_byte simple.CompareLongs = 148

-- ---- branches; goto_w apart, their targets have 16 bits

-- ifeq to ifle
unfoldable pub if_byte : Comparison → ℕ
if_byte comparison.Equal = 153
if_byte comparison.NotEqual = 154
if_byte comparison.Less = 155
if_byte comparison.GreaterOrEqual = 156
if_byte comparison.Greater = 157
if_byte comparison.LessOrEqual = 158

-- if_icmpeq to if_icmple
unfoldable pub if_ints_byte : Comparison → ℕ
if_ints_byte comparison.Equal = 159
if_ints_byte comparison.NotEqual = 160
if_ints_byte comparison.Less = 161
if_ints_byte comparison.GreaterOrEqual = 162
if_ints_byte comparison.Greater = 163
if_ints_byte comparison.LessOrEqual = 164

-- if_acmpeq and if_acmpne
unfoldable pub if_references_byte : Equality → ℕ
if_references_byte equality.Equal = 165
if_references_byte equality.NotEqual = 166

-- ifnull and ifnonnull
unfoldable pub if_null_byte : Equality → ℕ
if_null_byte equality.Equal = 198
if_null_byte equality.NotEqual = 199

unfoldable pub branch_byte : Branch → ℕ
branch_byte (branch.If c) = if_byte c
branch_byte (branch.IfInts c) = if_ints_byte c
branch_byte (branch.IfReferences e) = if_references_byte e
branch_byte (branch.IfNull e) = if_null_byte e
branch_byte branch.Goto = 167
branch_byte branch.GotoW = 200

-- ---- arrays

unfoldable pub array_load_byte : ArrayKind → ℕ
array_load_byte elements.Int = 46
array_load_byte elements.Long = 47
array_load_byte elements.Reference = 50
array_load_byte elements.Byte = 51
array_load_byte elements.Char = 52
array_load_byte elements.Short = 53

unfoldable pub array_store_byte : ArrayKind → ℕ
array_store_byte elements.Int = 79
array_store_byte elements.Long = 80
array_store_byte elements.Reference = 83
array_store_byte elements.Byte = 84
array_store_byte elements.Char = 85
array_store_byte elements.Short = 86

-- the operand of newarray (JVMS 6.5 newarray, table 6.5.newarray-A)
unfoldable pub element_code : PrimitiveType → ℕ
element_code primitive.Boolean = 4
element_code primitive.Char = 5
element_code primitive.Byte = 8
element_code primitive.Short = 9
element_code primitive.Int = 10
element_code primitive.Long = 11

-- ---- what remains

unfoldable pub return_byte : ReturnOp → ℕ
return_byte return.Int = 172
return_byte return.Long = 173
return_byte return.Reference = 176
return_byte return.Void = 177

unfoldable pub monitor_byte : MonitorOp → ℕ
monitor_byte monitor.Enter = 194
monitor_byte monitor.Exit = 195

unfoldable pub field_byte : FieldOp → ℕ
field_byte field.GetStatic = 178
field_byte field.PutStatic = 179
field_byte field.GetField = 180
field_byte field.PutField = 181

unfoldable pub invoke_byte : InvokeOp → ℕ
invoke_byte invoke.Virtual = 182
invoke_byte invoke.Special = 183
invoke_byte invoke.Static = 184
invoke_byte invoke.Interface = 185

unfoldable pub type_byte : TypeOp → ℕ
type_byte type.NewArray = 189
type_byte (type.NewArrays d) = 197
type_byte type.CheckCast = 192
type_byte type.InstanceOf = 193
