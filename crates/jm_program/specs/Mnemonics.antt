-- The mnemonics of the instructions, by families (JVMS 6.5, 7).
use Rattle.std.specs.Prelude.{ℕ, List, ◌++◌, codes}
use Rattle.jm_program.specs.declared.instruction.operation.OperandType.{OperandType}
use Rattle.jm_program.specs.declared.instruction.operation.OperandType.TheVariants as operand
use Rattle.jm_program.specs.declared.instruction.operation.Integral.{Integral}
use Rattle.jm_program.specs.declared.instruction.operation.Integral.TheVariants as integral
use Rattle.jm_program.specs.declared.instruction.operation.ShortIndex.{ShortIndex}
use Rattle.jm_program.specs.declared.instruction.operation.ShortIndex.TheVariants as index
use Rattle.jm_program.specs.declared.instruction.operation.SmallInt.{SmallInt}
use Rattle.jm_program.specs.declared.instruction.operation.SmallInt.TheVariants as small_int
use Rattle.jm_program.specs.declared.instruction.operation.SmallLong.{SmallLong}
use Rattle.jm_program.specs.declared.instruction.operation.SmallLong.TheVariants as small_long
use Rattle.jm_program.specs.declared.instruction.operation.StackOp.{StackOp}
use Rattle.jm_program.specs.declared.instruction.operation.StackOp.TheVariants as stack
use Rattle.jm_program.specs.declared.instruction.operation.Arithmetic.{Arithmetic}
use Rattle.jm_program.specs.declared.instruction.operation.Arithmetic.TheVariants as arithmetic
use Rattle.jm_program.specs.declared.instruction.operation.Shift.{Shift}
use Rattle.jm_program.specs.declared.instruction.operation.Shift.TheVariants as shift
use Rattle.jm_program.specs.declared.instruction.operation.Bitwise.{Bitwise}
use Rattle.jm_program.specs.declared.instruction.operation.Bitwise.TheVariants as bitwise
use Rattle.jm_program.specs.declared.instruction.operation.Conversion.{Conversion}
use Rattle.jm_program.specs.declared.instruction.operation.Conversion.TheVariants as conversion
use Rattle.jm_program.specs.declared.instruction.operation.Comparison.{Comparison}
use Rattle.jm_program.specs.declared.instruction.operation.Comparison.TheVariants as comparison
use Rattle.jm_program.specs.declared.instruction.operation.Equality.{Equality}
use Rattle.jm_program.specs.declared.instruction.operation.Equality.TheVariants as equality
use Rattle.jm_program.specs.declared.instruction.operation.Branch.{Branch}
use Rattle.jm_program.specs.declared.instruction.operation.Branch.TheVariants as branch
use Rattle.jm_program.specs.declared.instruction.operation.ArrayKind.{ArrayKind}
use Rattle.jm_program.specs.declared.instruction.operation.ArrayKind.TheVariants as kind
use Rattle.jm_program.specs.declared.instruction.operation.PrimitiveType.{PrimitiveType}
use Rattle.jm_program.specs.declared.instruction.operation.PrimitiveType.TheVariants as primitive
use Rattle.jm_program.specs.declared.instruction.operation.ArrayOp.{ArrayOp}
use Rattle.jm_program.specs.declared.instruction.operation.ArrayOp.TheVariants as array
use Rattle.jm_program.specs.declared.instruction.operation.ReturnOp.{ReturnOp}
use Rattle.jm_program.specs.declared.instruction.operation.ReturnOp.TheVariants as return_op
use Rattle.jm_program.specs.declared.instruction.operation.MonitorOp.{MonitorOp}
use Rattle.jm_program.specs.declared.instruction.operation.MonitorOp.TheVariants as monitor
use Rattle.jm_program.specs.declared.instruction.operation.FieldOp.{FieldOp}
use Rattle.jm_program.specs.declared.instruction.operation.FieldOp.TheVariants as field
use Rattle.jm_program.specs.declared.instruction.operation.InvokeOp.{InvokeOp}
use Rattle.jm_program.specs.declared.instruction.operation.InvokeOp.TheVariants as invoke
use Rattle.jm_program.specs.declared.instruction.operation.TypeOp.{TypeOp}
use Rattle.jm_program.specs.declared.instruction.operation.TypeOp.TheVariants as type_op

unfoldable pub operand_letter : OperandType → List ℕ
operand_letter operand.Int = codes "i"
operand_letter operand.Long = codes "l"
operand_letter operand.Reference = codes "a"

unfoldable pub integral_letter : Integral → List ℕ
integral_letter integral.Int = codes "i"
integral_letter integral.Long = codes "l"

unfoldable pub index_digit : ShortIndex → List ℕ
index_digit index.Zero = codes "0"
index_digit index.One = codes "1"
index_digit index.Two = codes "2"
index_digit index.Three = codes "3"

unfoldable pub small_int_digit : SmallInt → List ℕ
small_int_digit small_int.MinusOne = codes "m1"
small_int_digit small_int.Zero = codes "0"
small_int_digit small_int.One = codes "1"
small_int_digit small_int.Two = codes "2"
small_int_digit small_int.Three = codes "3"
small_int_digit small_int.Four = codes "4"
small_int_digit small_int.Five = codes "5"

unfoldable pub small_long_digit : SmallLong → List ℕ
small_long_digit small_long.Zero = codes "0"
small_long_digit small_long.One = codes "1"

unfoldable pub stack_mnemonic : StackOp → List ℕ
stack_mnemonic stack.Pop = codes "pop"
stack_mnemonic stack.Pop2 = codes "pop2"
stack_mnemonic stack.Dup = codes "dup"
stack_mnemonic stack.DupX1 = codes "dup_x1"
stack_mnemonic stack.DupX2 = codes "dup_x2"
stack_mnemonic stack.Dup2 = codes "dup2"
stack_mnemonic stack.Dup2X1 = codes "dup2_x1"
stack_mnemonic stack.Dup2X2 = codes "dup2_x2"
stack_mnemonic stack.Swap = codes "swap"

unfoldable pub arithmetic_name : Arithmetic → List ℕ
arithmetic_name arithmetic.Add = codes "add"
arithmetic_name arithmetic.Sub = codes "sub"
arithmetic_name arithmetic.Mul = codes "mul"
arithmetic_name arithmetic.Div = codes "div"
arithmetic_name arithmetic.Rem = codes "rem"

unfoldable pub shift_name : Shift → List ℕ
shift_name shift.Left = codes "shl"
shift_name shift.Right = codes "shr"
shift_name shift.UnsignedRight = codes "ushr"

unfoldable pub bitwise_name : Bitwise → List ℕ
bitwise_name bitwise.And = codes "and"
bitwise_name bitwise.Or = codes "or"
bitwise_name bitwise.Xor = codes "xor"

unfoldable pub conversion_mnemonic : Conversion → List ℕ
conversion_mnemonic conversion.IntToLong = codes "i2l"
conversion_mnemonic conversion.LongToInt = codes "l2i"
conversion_mnemonic conversion.IntToByte = codes "i2b"
conversion_mnemonic conversion.IntToChar = codes "i2c"
conversion_mnemonic conversion.IntToShort = codes "i2s"

unfoldable pub comparison_name : Comparison → List ℕ
comparison_name comparison.Equal = codes "eq"
comparison_name comparison.NotEqual = codes "ne"
comparison_name comparison.Less = codes "lt"
comparison_name comparison.GreaterOrEqual = codes "ge"
comparison_name comparison.Greater = codes "gt"
comparison_name comparison.LessOrEqual = codes "le"

unfoldable pub equality_name : Equality → List ℕ
equality_name equality.Equal = codes "eq"
equality_name equality.NotEqual = codes "ne"

unfoldable pub null_mnemonic : Equality → List ℕ
null_mnemonic equality.Equal = codes "ifnull"
null_mnemonic equality.NotEqual = codes "ifnonnull"

unfoldable pub branch_mnemonic : Branch → List ℕ
branch_mnemonic (branch.If c) = codes "if" ++ comparison_name c
branch_mnemonic (branch.IfInts c) = codes "if_icmp" ++ comparison_name c
branch_mnemonic (branch.IfReferences e) = codes "if_acmp" ++ equality_name e
branch_mnemonic (branch.IfNull e) = null_mnemonic e
branch_mnemonic branch.Goto = codes "goto"
branch_mnemonic branch.GotoW = codes "goto_w"

unfoldable pub array_letter : ArrayKind → List ℕ
array_letter kind.Int = codes "i"
array_letter kind.Long = codes "l"
array_letter kind.Reference = codes "a"
array_letter kind.Byte = codes "b"
array_letter kind.Char = codes "c"
array_letter kind.Short = codes "s"

unfoldable pub primitive_name : PrimitiveType → List ℕ
primitive_name primitive.Boolean = codes "boolean"
primitive_name primitive.Char = codes "char"
primitive_name primitive.Byte = codes "byte"
primitive_name primitive.Short = codes "short"
primitive_name primitive.Int = codes "int"
primitive_name primitive.Long = codes "long"

unfoldable pub array_line : ArrayOp → List ℕ
array_line (array.Load k) = array_letter k ++ codes "aload"
array_line (array.Store k) = array_letter k ++ codes "astore"
array_line (array.New t) = codes "newarray " ++ primitive_name t
array_line array.Length = codes "arraylength"

unfoldable pub return_mnemonic : ReturnOp → List ℕ
return_mnemonic return_op.Int = codes "ireturn"
return_mnemonic return_op.Long = codes "lreturn"
return_mnemonic return_op.Reference = codes "areturn"
return_mnemonic return_op.Void = codes "return"

unfoldable pub monitor_mnemonic : MonitorOp → List ℕ
monitor_mnemonic monitor.Enter = codes "monitorenter"
monitor_mnemonic monitor.Exit = codes "monitorexit"

unfoldable pub field_mnemonic : FieldOp → List ℕ
field_mnemonic field.GetStatic = codes "getstatic"
field_mnemonic field.PutStatic = codes "putstatic"
field_mnemonic field.GetField = codes "getfield"
field_mnemonic field.PutField = codes "putfield"

unfoldable pub invoke_mnemonic : InvokeOp → List ℕ
invoke_mnemonic invoke.Virtual = codes "invokevirtual"
invoke_mnemonic invoke.Special = codes "invokespecial"
invoke_mnemonic invoke.Static = codes "invokestatic"
invoke_mnemonic invoke.Interface = codes "invokeinterface"

unfoldable pub type_mnemonic : TypeOp → List ℕ
type_mnemonic type_op.NewArray = codes "anewarray"
type_mnemonic (type_op.NewArrays d) = codes "multianewarray"
type_mnemonic type_op.CheckCast = codes "checkcast"
type_mnemonic type_op.InstanceOf = codes "instanceof"
