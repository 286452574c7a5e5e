-- The mnemonics: each is a word that names its opcode, and is shorter than the column of the operands.
use Rattle.std.proofs.Common.{◌≡◌, ℕ, true, List, ◌++◌, length, Some, refl, codes, nat_lt}
use Rattle.jm_program.specs.Mnemonics.{operand_letter, integral_letter, index_digit, small_int_digit, small_long_digit, stack_mnemonic, arithmetic_name}
use Rattle.jm_program.specs.Mnemonics.{shift_name, bitwise_name, conversion_mnemonic, comparison_name, equality_name, null_mnemonic, branch_mnemonic}
use Rattle.jm_program.specs.Mnemonics.{array_letter, array_line, return_mnemonic, monitor_mnemonic, field_mnemonic, invoke_mnemonic, type_mnemonic}
use Rattle.jm_program.specs.Mnemonics.{primitive_name}
use Rattle.jm_program.specs.JasminInstructions.{simple_line}
use Rattle.jm_program.specs.declared.instruction.operation.OperandType.{OperandType}
use Rattle.jm_program.specs.declared.instruction.operation.OperandType.TheVariants as operand
use Rattle.jm_program.specs.declared.instruction.operation.Integral.TheVariants as integral
use Rattle.jm_program.specs.declared.instruction.operation.ShortIndex.TheVariants as index
use Rattle.jm_program.specs.declared.instruction.operation.SmallInt.TheVariants as small_int
use Rattle.jm_program.specs.declared.instruction.operation.SmallLong.TheVariants as small_long
use Rattle.jm_program.specs.declared.instruction.operation.StackOp.TheVariants as stack_op
use Rattle.jm_program.specs.declared.instruction.operation.Arithmetic.TheVariants as arithmetic
use Rattle.jm_program.specs.declared.instruction.operation.Shift.TheVariants as shift
use Rattle.jm_program.specs.declared.instruction.operation.Bitwise.TheVariants as bitwise
use Rattle.jm_program.specs.declared.instruction.operation.Conversion.TheVariants as conversion
use Rattle.jm_program.specs.declared.instruction.operation.Comparison.TheVariants as comparison
use Rattle.jm_program.specs.declared.instruction.operation.Equality.TheVariants as equality
use Rattle.jm_program.specs.declared.instruction.operation.ArrayKind.TheVariants as kind
use Rattle.jm_program.specs.declared.instruction.operation.PrimitiveType.{PrimitiveType}
use Rattle.jm_program.specs.declared.instruction.operation.PrimitiveType.TheVariants as primitive
use Rattle.jm_program.specs.declared.instruction.operation.ReturnOp.{ReturnOp}
use Rattle.jm_program.specs.declared.instruction.operation.ReturnOp.TheVariants as return
use Rattle.jm_program.specs.declared.instruction.operation.MonitorOp.{MonitorOp}
use Rattle.jm_program.specs.declared.instruction.operation.MonitorOp.TheVariants as monitor
use Rattle.jm_program.specs.declared.instruction.operation.FieldOp.{FieldOp}
use Rattle.jm_program.specs.declared.instruction.operation.FieldOp.TheVariants as field
use Rattle.jm_program.specs.declared.instruction.operation.InvokeOp.{InvokeOp}
use Rattle.jm_program.specs.declared.instruction.operation.InvokeOp.TheVariants as invoke
use Rattle.jm_program.specs.declared.instruction.operation.TypeOp.{TypeOp}
use Rattle.jm_program.specs.declared.instruction.operation.TypeOp.TheVariants as type
use Rattle.jm_program.specs.declared.instruction.operation.Branch.{Branch}
use Rattle.jm_program.specs.declared.instruction.operation.Branch.TheVariants as branch
use Rattle.jm_program.specs.declared.instruction.operation.ArrayOp.{ArrayOp}
use Rattle.jm_program.specs.declared.instruction.operation.ArrayOp.TheVariants as array
use Rattle.jm_program.specs.declared.instruction.plain.Simple.{Simple}
use Rattle.jm_program.specs.declared.instruction.plain.Simple.TheVariants as simple
use Rattle.jm_class_format.specs.Mnemonics.{left_out_mnemonic}
use Rattle.jm_class_format.specs.Opcodes.{constants, loads, stores, stack, math, conversions, comparisons, control, references, extended, type_opcode}
use Rattle.jm_class_format.specs.declared.opcode.Opcode.{Opcode}
use Rattle.jm_class_format.specs.declared.opcode.Opcode.TheVariants as opcode
use Rattle.jm_jasmin_ops.specs.Mnemonics.{mnemonic, in_rows, opcode_named}
use Rattle.jm_disassembler.proofs.Laid.{is_word}

pub record Names (text : List ℕ) (op : Opcode) : Type 0 where
  pub named : opcode_named text ≡ Some op
  pub word : is_word text ≡ true
  pub short : nat_lt (length text) 16 ≡ true

pub simple_names : (op : Simple) → Names (simple_line op) (opcode.Simple op)
unfolding opcode_named in_rows mnemonic left_out_mnemonic simple_line operand_letter integral_letter index_digit small_int_digit
    small_long_digit stack_mnemonic arithmetic_name shift_name bitwise_name conversion_mnemonic comparison_name equality_name null_mnemonic
    branch_mnemonic array_letter array_line return_mnemonic monitor_mnemonic field_mnemonic invoke_mnemonic type_mnemonic constants loads
    stores stack math conversions comparisons control references extended
simple_names simple.Nop = record { named = refl; word = refl; short = refl }
simple_names simple.Null = record { named = refl; word = refl; short = refl }
simple_names (simple.IntConstant small_int.MinusOne) = record { named = refl; word = refl; short = refl }
simple_names (simple.IntConstant small_int.Zero) = record { named = refl; word = refl; short = refl }
simple_names (simple.IntConstant small_int.One) = record { named = refl; word = refl; short = refl }
simple_names (simple.IntConstant small_int.Two) = record { named = refl; word = refl; short = refl }
simple_names (simple.IntConstant small_int.Three) = record { named = refl; word = refl; short = refl }
simple_names (simple.IntConstant small_int.Four) = record { named = refl; word = refl; short = refl }
simple_names (simple.IntConstant small_int.Five) = record { named = refl; word = refl; short = refl }
simple_names (simple.LongConstant small_long.Zero) = record { named = refl; word = refl; short = refl }
simple_names (simple.LongConstant small_long.One) = record { named = refl; word = refl; short = refl }
simple_names (simple.Load operand.Int index.Zero) = record { named = refl; word = refl; short = refl }
simple_names (simple.Load operand.Int index.One) = record { named = refl; word = refl; short = refl }
simple_names (simple.Load operand.Int index.Two) = record { named = refl; word = refl; short = refl }
simple_names (simple.Load operand.Int index.Three) = record { named = refl; word = refl; short = refl }
simple_names (simple.Load operand.Long index.Zero) = record { named = refl; word = refl; short = refl }
simple_names (simple.Load operand.Long index.One) = record { named = refl; word = refl; short = refl }
simple_names (simple.Load operand.Long index.Two) = record { named = refl; word = refl; short = refl }
simple_names (simple.Load operand.Long index.Three) = record { named = refl; word = refl; short = refl }
simple_names (simple.Load operand.Reference index.Zero) = record { named = refl; word = refl; short = refl }
simple_names (simple.Load operand.Reference index.One) = record { named = refl; word = refl; short = refl }
simple_names (simple.Load operand.Reference index.Two) = record { named = refl; word = refl; short = refl }
simple_names (simple.Load operand.Reference index.Three) = record { named = refl; word = refl; short = refl }
simple_names (simple.Store operand.Int index.Zero) = record { named = refl; word = refl; short = refl }
simple_names (simple.Store operand.Int index.One) = record { named = refl; word = refl; short = refl }
simple_names (simple.Store operand.Int index.Two) = record { named = refl; word = refl; short = refl }
simple_names (simple.Store operand.Int index.Three) = record { named = refl; word = refl; short = refl }
simple_names (simple.Store operand.Long index.Zero) = record { named = refl; word = refl; short = refl }
simple_names (simple.Store operand.Long index.One) = record { named = refl; word = refl; short = refl }
simple_names (simple.Store operand.Long index.Two) = record { named = refl; word = refl; short = refl }
simple_names (simple.Store operand.Long index.Three) = record { named = refl; word = refl; short = refl }
simple_names (simple.Store operand.Reference index.Zero) = record { named = refl; word = refl; short = refl }
simple_names (simple.Store operand.Reference index.One) = record { named = refl; word = refl; short = refl }
simple_names (simple.Store operand.Reference index.Two) = record { named = refl; word = refl; short = refl }
simple_names (simple.Store operand.Reference index.Three) = record { named = refl; word = refl; short = refl }
simple_names (simple.Stack stack_op.Pop) = record { named = refl; word = refl; short = refl }
simple_names (simple.Stack stack_op.Pop2) = record { named = refl; word = refl; short = refl }
simple_names (simple.Stack stack_op.Dup) = record { named = refl; word = refl; short = refl }
simple_names (simple.Stack stack_op.DupX1) = record { named = refl; word = refl; short = refl }
simple_names (simple.Stack stack_op.DupX2) = record { named = refl; word = refl; short = refl }
simple_names (simple.Stack stack_op.Dup2) = record { named = refl; word = refl; short = refl }
simple_names (simple.Stack stack_op.Dup2X1) = record { named = refl; word = refl; short = refl }
simple_names (simple.Stack stack_op.Dup2X2) = record { named = refl; word = refl; short = refl }
simple_names (simple.Stack stack_op.Swap) = record { named = refl; word = refl; short = refl }
simple_names (simple.Arithmetic arithmetic.Add integral.Int) = record { named = refl; word = refl; short = refl }
simple_names (simple.Arithmetic arithmetic.Add integral.Long) = record { named = refl; word = refl; short = refl }
simple_names (simple.Arithmetic arithmetic.Sub integral.Int) = record { named = refl; word = refl; short = refl }
simple_names (simple.Arithmetic arithmetic.Sub integral.Long) = record { named = refl; word = refl; short = refl }
simple_names (simple.Arithmetic arithmetic.Mul integral.Int) = record { named = refl; word = refl; short = refl }
simple_names (simple.Arithmetic arithmetic.Mul integral.Long) = record { named = refl; word = refl; short = refl }
simple_names (simple.Arithmetic arithmetic.Div integral.Int) = record { named = refl; word = refl; short = refl }
simple_names (simple.Arithmetic arithmetic.Div integral.Long) = record { named = refl; word = refl; short = refl }
simple_names (simple.Arithmetic arithmetic.Rem integral.Int) = record { named = refl; word = refl; short = refl }
simple_names (simple.Arithmetic arithmetic.Rem integral.Long) = record { named = refl; word = refl; short = refl }
simple_names (simple.Negate integral.Int) = record { named = refl; word = refl; short = refl }
simple_names (simple.Negate integral.Long) = record { named = refl; word = refl; short = refl }
simple_names (simple.Shift shift.Left integral.Int) = record { named = refl; word = refl; short = refl }
simple_names (simple.Shift shift.Left integral.Long) = record { named = refl; word = refl; short = refl }
simple_names (simple.Shift shift.Right integral.Int) = record { named = refl; word = refl; short = refl }
simple_names (simple.Shift shift.Right integral.Long) = record { named = refl; word = refl; short = refl }
simple_names (simple.Shift shift.UnsignedRight integral.Int) = record { named = refl; word = refl; short = refl }
simple_names (simple.Shift shift.UnsignedRight integral.Long) = record { named = refl; word = refl; short = refl }
simple_names (simple.Bitwise bitwise.And integral.Int) = record { named = refl; word = refl; short = refl }
simple_names (simple.Bitwise bitwise.And integral.Long) = record { named = refl; word = refl; short = refl }
simple_names (simple.Bitwise bitwise.Or integral.Int) = record { named = refl; word = refl; short = refl }
simple_names (simple.Bitwise bitwise.Or integral.Long) = record { named = refl; word = refl; short = refl }
simple_names (simple.Bitwise bitwise.Xor integral.Int) = record { named = refl; word = refl; short = refl }
simple_names (simple.Bitwise bitwise.Xor integral.Long) = record { named = refl; word = refl; short = refl }
simple_names (simple.Convert conversion.IntToLong) = record { named = refl; word = refl; short = refl }
simple_names (simple.Convert conversion.LongToInt) = record { named = refl; word = refl; short = refl }
simple_names (simple.Convert conversion.IntToByte) = record { named = refl; word = refl; short = refl }
simple_names (simple.Convert conversion.IntToChar) = record { named = refl; word = refl; short = refl }
simple_names (simple.Convert conversion.IntToShort) = record { named = refl; word = refl; short = refl }
simple_names simple.CompareLongs = record { named = refl; word = refl; short = refl }

pub load_names : (t : OperandType) → Names (operand_letter t ++ codes "load") (opcode.Load t)
unfolding opcode_named in_rows mnemonic left_out_mnemonic simple_line operand_letter integral_letter index_digit small_int_digit
    small_long_digit stack_mnemonic arithmetic_name shift_name bitwise_name conversion_mnemonic comparison_name equality_name null_mnemonic
    branch_mnemonic array_letter array_line return_mnemonic monitor_mnemonic field_mnemonic invoke_mnemonic type_mnemonic constants loads
    stores stack math conversions comparisons control references extended
load_names operand.Int = record { named = refl; word = refl; short = refl }
load_names operand.Long = record { named = refl; word = refl; short = refl }
load_names operand.Reference = record { named = refl; word = refl; short = refl }

pub store_names : (t : OperandType) → Names (operand_letter t ++ codes "store") (opcode.Store t)
unfolding opcode_named in_rows mnemonic left_out_mnemonic simple_line operand_letter integral_letter index_digit small_int_digit
    small_long_digit stack_mnemonic arithmetic_name shift_name bitwise_name conversion_mnemonic comparison_name equality_name null_mnemonic
    branch_mnemonic array_letter array_line return_mnemonic monitor_mnemonic field_mnemonic invoke_mnemonic type_mnemonic constants loads
    stores stack math conversions comparisons control references extended
store_names operand.Int = record { named = refl; word = refl; short = refl }
store_names operand.Long = record { named = refl; word = refl; short = refl }
store_names operand.Reference = record { named = refl; word = refl; short = refl }

pub field_names : (op : FieldOp) → Names (field_mnemonic op) (opcode.Field op)
unfolding opcode_named in_rows mnemonic left_out_mnemonic simple_line operand_letter integral_letter index_digit small_int_digit
    small_long_digit stack_mnemonic arithmetic_name shift_name bitwise_name conversion_mnemonic comparison_name equality_name null_mnemonic
    branch_mnemonic array_letter array_line return_mnemonic monitor_mnemonic field_mnemonic invoke_mnemonic type_mnemonic constants loads
    stores stack math conversions comparisons control references extended
field_names field.GetStatic = record { named = refl; word = refl; short = refl }
field_names field.PutStatic = record { named = refl; word = refl; short = refl }
field_names field.GetField = record { named = refl; word = refl; short = refl }
field_names field.PutField = record { named = refl; word = refl; short = refl }

pub type_names : (op : TypeOp) → Names (type_mnemonic op) (type_opcode op)
unfolding opcode_named in_rows mnemonic left_out_mnemonic simple_line operand_letter integral_letter index_digit small_int_digit
    small_long_digit stack_mnemonic arithmetic_name shift_name bitwise_name conversion_mnemonic comparison_name equality_name null_mnemonic
    branch_mnemonic array_letter array_line return_mnemonic monitor_mnemonic field_mnemonic invoke_mnemonic type_mnemonic constants loads
    stores stack math conversions comparisons control references extended
type_names type.NewArray = record { named = refl; word = refl; short = refl }
type_names (type.NewArrays d) = record { named = refl; word = refl; short = refl }
type_names type.CheckCast = record { named = refl; word = refl; short = refl }
type_names type.InstanceOf = record { named = refl; word = refl; short = refl }

pub return_names : (op : ReturnOp) → Names (return_mnemonic op) (opcode.Return op)
unfolding opcode_named in_rows mnemonic left_out_mnemonic simple_line operand_letter integral_letter index_digit small_int_digit
    small_long_digit stack_mnemonic arithmetic_name shift_name bitwise_name conversion_mnemonic comparison_name equality_name null_mnemonic
    branch_mnemonic array_letter array_line return_mnemonic monitor_mnemonic field_mnemonic invoke_mnemonic type_mnemonic constants loads
    stores stack math conversions comparisons control references extended
return_names return.Int = record { named = refl; word = refl; short = refl }
return_names return.Long = record { named = refl; word = refl; short = refl }
return_names return.Reference = record { named = refl; word = refl; short = refl }
return_names return.Void = record { named = refl; word = refl; short = refl }

pub monitor_names : (op : MonitorOp) → Names (monitor_mnemonic op) (opcode.Monitor op)
unfolding opcode_named in_rows mnemonic left_out_mnemonic simple_line operand_letter integral_letter index_digit small_int_digit
    small_long_digit stack_mnemonic arithmetic_name shift_name bitwise_name conversion_mnemonic comparison_name equality_name null_mnemonic
    branch_mnemonic array_letter array_line return_mnemonic monitor_mnemonic field_mnemonic invoke_mnemonic type_mnemonic constants loads
    stores stack math conversions comparisons control references extended
monitor_names monitor.Enter = record { named = refl; word = refl; short = refl }
monitor_names monitor.Exit = record { named = refl; word = refl; short = refl }

-- invokeinterface has an opcode of its own
abbrev pub invoke_opcode : InvokeOp → Opcode
invoke_opcode invoke.Interface = opcode.InvokeInterface
invoke_opcode op = opcode.Invoke op

pub invoke_names : (op : InvokeOp) → Names (invoke_mnemonic op) (invoke_opcode op)
unfolding opcode_named in_rows mnemonic left_out_mnemonic simple_line operand_letter integral_letter index_digit small_int_digit
    small_long_digit stack_mnemonic arithmetic_name shift_name bitwise_name conversion_mnemonic comparison_name equality_name null_mnemonic
    branch_mnemonic array_letter array_line return_mnemonic monitor_mnemonic field_mnemonic invoke_mnemonic type_mnemonic constants loads
    stores stack math conversions comparisons control references extended
invoke_names invoke.Virtual = record { named = refl; word = refl; short = refl }
invoke_names invoke.Special = record { named = refl; word = refl; short = refl }
invoke_names invoke.Static = record { named = refl; word = refl; short = refl }
invoke_names invoke.Interface = record { named = refl; word = refl; short = refl }

-- goto_w has an opcode of its own
abbrev pub branch_opcode : Branch → Opcode
branch_opcode branch.GotoW = opcode.BranchWide branch.GotoW
branch_opcode op = opcode.Branch op

pub branch_names : (op : Branch) → Names (branch_mnemonic op) (branch_opcode op)
unfolding opcode_named in_rows mnemonic left_out_mnemonic simple_line operand_letter integral_letter index_digit small_int_digit
    small_long_digit stack_mnemonic arithmetic_name shift_name bitwise_name conversion_mnemonic comparison_name equality_name null_mnemonic
    branch_mnemonic array_letter array_line return_mnemonic monitor_mnemonic field_mnemonic invoke_mnemonic type_mnemonic constants loads
    stores stack math conversions comparisons control references extended
branch_names (branch.If comparison.Equal) = record { named = refl; word = refl; short = refl }
branch_names (branch.If comparison.NotEqual) = record { named = refl; word = refl; short = refl }
branch_names (branch.If comparison.Less) = record { named = refl; word = refl; short = refl }
branch_names (branch.If comparison.GreaterOrEqual) = record { named = refl; word = refl; short = refl }
branch_names (branch.If comparison.Greater) = record { named = refl; word = refl; short = refl }
branch_names (branch.If comparison.LessOrEqual) = record { named = refl; word = refl; short = refl }
branch_names (branch.IfInts comparison.Equal) = record { named = refl; word = refl; short = refl }
branch_names (branch.IfInts comparison.NotEqual) = record { named = refl; word = refl; short = refl }
branch_names (branch.IfInts comparison.Less) = record { named = refl; word = refl; short = refl }
branch_names (branch.IfInts comparison.GreaterOrEqual) = record { named = refl; word = refl; short = refl }
branch_names (branch.IfInts comparison.Greater) = record { named = refl; word = refl; short = refl }
branch_names (branch.IfInts comparison.LessOrEqual) = record { named = refl; word = refl; short = refl }
branch_names (branch.IfReferences equality.Equal) = record { named = refl; word = refl; short = refl }
branch_names (branch.IfReferences equality.NotEqual) = record { named = refl; word = refl; short = refl }
branch_names (branch.IfNull equality.Equal) = record { named = refl; word = refl; short = refl }
branch_names (branch.IfNull equality.NotEqual) = record { named = refl; word = refl; short = refl }
branch_names branch.Goto = record { named = refl; word = refl; short = refl }
branch_names branch.GotoW = record { named = refl; word = refl; short = refl }

-- newarray has an opcode of its own
abbrev pub array_opcode : ArrayOp → Opcode
array_opcode (array.New t) = opcode.NewArray
array_opcode op = opcode.Array op

-- the first word of its line
abbrev pub array_word : ArrayOp → List ℕ
array_word (array.New t) = codes "newarray"
array_word op = array_line op

pub array_names : (op : ArrayOp) → Names (array_word op) (array_opcode op)
unfolding opcode_named in_rows mnemonic left_out_mnemonic simple_line operand_letter integral_letter index_digit small_int_digit
    small_long_digit stack_mnemonic arithmetic_name shift_name bitwise_name conversion_mnemonic comparison_name equality_name null_mnemonic
    branch_mnemonic array_letter array_line return_mnemonic monitor_mnemonic field_mnemonic invoke_mnemonic type_mnemonic constants loads
    stores stack math conversions comparisons control references extended
array_names (array.Load kind.Int) = record { named = refl; word = refl; short = refl }
array_names (array.Load kind.Long) = record { named = refl; word = refl; short = refl }
array_names (array.Load kind.Reference) = record { named = refl; word = refl; short = refl }
array_names (array.Load kind.Byte) = record { named = refl; word = refl; short = refl }
array_names (array.Load kind.Char) = record { named = refl; word = refl; short = refl }
array_names (array.Load kind.Short) = record { named = refl; word = refl; short = refl }
array_names (array.Store kind.Int) = record { named = refl; word = refl; short = refl }
array_names (array.Store kind.Long) = record { named = refl; word = refl; short = refl }
array_names (array.Store kind.Reference) = record { named = refl; word = refl; short = refl }
array_names (array.Store kind.Byte) = record { named = refl; word = refl; short = refl }
array_names (array.Store kind.Char) = record { named = refl; word = refl; short = refl }
array_names (array.Store kind.Short) = record { named = refl; word = refl; short = refl }
array_names (array.New t) = record { named = refl; word = refl; short = refl }
array_names array.Length = record { named = refl; word = refl; short = refl }

pub push_byte_names : Names (codes "bipush") opcode.PushByte
unfolding opcode_named in_rows mnemonic left_out_mnemonic simple_line operand_letter integral_letter index_digit small_int_digit
    small_long_digit stack_mnemonic arithmetic_name shift_name bitwise_name conversion_mnemonic comparison_name equality_name null_mnemonic
    branch_mnemonic array_letter array_line return_mnemonic monitor_mnemonic field_mnemonic invoke_mnemonic type_mnemonic constants loads
    stores stack math conversions comparisons control references extended
push_byte_names = record { named = refl; word = refl; short = refl }

pub push_short_names : Names (codes "sipush") opcode.PushShort
unfolding opcode_named in_rows mnemonic left_out_mnemonic simple_line operand_letter integral_letter index_digit small_int_digit
    small_long_digit stack_mnemonic arithmetic_name shift_name bitwise_name conversion_mnemonic comparison_name equality_name null_mnemonic
    branch_mnemonic array_letter array_line return_mnemonic monitor_mnemonic field_mnemonic invoke_mnemonic type_mnemonic constants loads
    stores stack math conversions comparisons control references extended
push_short_names = record { named = refl; word = refl; short = refl }

pub constant_names : Names (codes "ldc") opcode.LoadConstant
unfolding opcode_named in_rows mnemonic left_out_mnemonic simple_line operand_letter integral_letter index_digit small_int_digit
    small_long_digit stack_mnemonic arithmetic_name shift_name bitwise_name conversion_mnemonic comparison_name equality_name null_mnemonic
    branch_mnemonic array_letter array_line return_mnemonic monitor_mnemonic field_mnemonic invoke_mnemonic type_mnemonic constants loads
    stores stack math conversions comparisons control references extended
constant_names = record { named = refl; word = refl; short = refl }

pub long_names : Names (codes "ldc2_w") opcode.LoadLong
unfolding opcode_named in_rows mnemonic left_out_mnemonic simple_line operand_letter integral_letter index_digit small_int_digit
    small_long_digit stack_mnemonic arithmetic_name shift_name bitwise_name conversion_mnemonic comparison_name equality_name null_mnemonic
    branch_mnemonic array_letter array_line return_mnemonic monitor_mnemonic field_mnemonic invoke_mnemonic type_mnemonic constants loads
    stores stack math conversions comparisons control references extended
long_names = record { named = refl; word = refl; short = refl }

pub increment_names : Names (codes "iinc") opcode.Increment
unfolding opcode_named in_rows mnemonic left_out_mnemonic simple_line operand_letter integral_letter index_digit small_int_digit
    small_long_digit stack_mnemonic arithmetic_name shift_name bitwise_name conversion_mnemonic comparison_name equality_name null_mnemonic
    branch_mnemonic array_letter array_line return_mnemonic monitor_mnemonic field_mnemonic invoke_mnemonic type_mnemonic constants loads
    stores stack math conversions comparisons control references extended
increment_names = record { named = refl; word = refl; short = refl }

pub new_names : Names (codes "new") opcode.New
unfolding opcode_named in_rows mnemonic left_out_mnemonic simple_line operand_letter integral_letter index_digit small_int_digit
    small_long_digit stack_mnemonic arithmetic_name shift_name bitwise_name conversion_mnemonic comparison_name equality_name null_mnemonic
    branch_mnemonic array_letter array_line return_mnemonic monitor_mnemonic field_mnemonic invoke_mnemonic type_mnemonic constants loads
    stores stack math conversions comparisons control references extended
new_names = record { named = refl; word = refl; short = refl }

pub throw_names : Names (codes "athrow") opcode.Throw
unfolding opcode_named in_rows mnemonic left_out_mnemonic simple_line operand_letter integral_letter index_digit small_int_digit
    small_long_digit stack_mnemonic arithmetic_name shift_name bitwise_name conversion_mnemonic comparison_name equality_name null_mnemonic
    branch_mnemonic array_letter array_line return_mnemonic monitor_mnemonic field_mnemonic invoke_mnemonic type_mnemonic constants loads
    stores stack math conversions comparisons control references extended
throw_names = record { named = refl; word = refl; short = refl }

pub table_names : Names (codes "tableswitch") opcode.TableSwitch
unfolding opcode_named in_rows mnemonic left_out_mnemonic simple_line operand_letter integral_letter index_digit small_int_digit
    small_long_digit stack_mnemonic arithmetic_name shift_name bitwise_name conversion_mnemonic comparison_name equality_name null_mnemonic
    branch_mnemonic array_letter array_line return_mnemonic monitor_mnemonic field_mnemonic invoke_mnemonic type_mnemonic constants loads
    stores stack math conversions comparisons control references extended
table_names = record { named = refl; word = refl; short = refl }

pub lookup_names : Names (codes "lookupswitch") opcode.LookupSwitch
unfolding opcode_named in_rows mnemonic left_out_mnemonic simple_line operand_letter integral_letter index_digit small_int_digit
    small_long_digit stack_mnemonic arithmetic_name shift_name bitwise_name conversion_mnemonic comparison_name equality_name null_mnemonic
    branch_mnemonic array_letter array_line return_mnemonic monitor_mnemonic field_mnemonic invoke_mnemonic type_mnemonic constants loads
    stores stack math conversions comparisons control references extended
lookup_names = record { named = refl; word = refl; short = refl }

pub primitive_word : (t : PrimitiveType) → is_word (primitive_name t) ≡ true
unfolding primitive_name
primitive_word primitive.Boolean = refl
primitive_word primitive.Char = refl
primitive_word primitive.Byte = refl
primitive_word primitive.Short = refl
primitive_word primitive.Int = refl
primitive_word primitive.Long = refl
