-- Instructions in a line of Jasmin (Jasmin User Guide, "Instructions").
use Rattle.std.specs.Prelude.{ℕ, ℤ, ◌+◌, List, [], ◌∷◌, ◌++◌, codes, min}
use Rattle.std.specs.List.{flat_map}
use Rattle.std.specs.Fmt.{decimal, signed_decimal}
use Rattle.jm_program.specs.Descriptors.{argument_slots}
use Rattle.jm_program.specs.JasminUnits.{name_text, string_text}
use Rattle.jm_program.specs.JasminTypes.{class_line, field_ref_line, method_ref_line}
use Rattle.jm_program.specs.Mnemonics.{operand_letter, integral_letter, index_digit, small_int_digit, small_long_digit, stack_mnemonic, arithmetic_name, shift_name, bitwise_name, conversion_mnemonic, branch_mnemonic, array_line, return_mnemonic, monitor_mnemonic, field_mnemonic, invoke_mnemonic, type_mnemonic}
use Rattle.jm_program.specs.declared.constant.Constant.{Constant}
use Rattle.jm_program.specs.declared.constant.Constant.TheVariants as constant
use Rattle.jm_program.specs.declared.instruction.operation.InvokeOp.{InvokeOp}
use Rattle.jm_program.specs.declared.instruction.operation.InvokeOp.TheVariants as invoke
use Rattle.jm_program.specs.declared.instruction.operation.TypeOp.{TypeOp}
use Rattle.jm_program.specs.declared.instruction.operation.TypeOp.TheVariants as type_op
use Rattle.jm_program.specs.declared.instruction.plain.Simple.{Simple}
use Rattle.jm_program.specs.declared.instruction.plain.Simple.TheVariants as simple
use Rattle.jm_program.specs.declared.instruction.plain.SwitchPair.{SwitchPair}
use Rattle.jm_program.specs.declared.instruction.plain.TableSwitch.{TableSwitch}
use Rattle.jm_program.specs.declared.instruction.plain.LookupSwitch.{LookupSwitch}
use Rattle.jm_program.specs.declared.instruction.plain.Plain.{Plain}
use Rattle.jm_program.specs.declared.instruction.plain.Plain.TheVariants as plain
use Rattle.jm_program.specs.declared.instruction.symbolic.Instr.{Instr}
use Rattle.jm_program.specs.declared.instruction.symbolic.Instr.TheVariants as instr
use Rattle.jm_program.specs.declared.reference.ClassRef.{ClassRef}
use Rattle.jm_program.specs.declared.reference.MethodRef.{MethodRef}

unfoldable pub simple_line : Simple → List ℕ
simple_line simple.Nop = codes "nop"
simple_line simple.Null = codes "aconst_null"
simple_line (simple.IntConstant n) = codes "iconst_" ++ small_int_digit n
simple_line (simple.LongConstant n) = codes "lconst_" ++ small_long_digit n
simple_line (simple.Load t n) = operand_letter t ++ codes "load_" ++ index_digit n
simple_line (simple.Store t n) = operand_letter t ++ codes "store_" ++ index_digit n
simple_line (simple.Stack op) = stack_mnemonic op
simple_line (simple.Arithmetic op t) = integral_letter t ++ arithmetic_name op
simple_line (simple.Negate t) = integral_letter t ++ codes "neg"
simple_line (simple.Shift op t) = integral_letter t ++ shift_name op
simple_line (simple.Bitwise op t) = integral_letter t ++ bitwise_name op
simple_line (simple.Convert op) = conversion_mnemonic op
simple_line simple.CompareLongs = codes "lcmp"

-- L and the number of an instruction, on a line of its own
unfoldable pub target_line : ℕ → List ℕ
target_line target = codes "\n  L" ++ decimal target

unfoldable pub default_line : ℕ → List ℕ
default_line target = codes "\n  default : L" ++ decimal target

unfoldable pub low_line : ℤ → List ℕ
low_line low = codes "tableswitch " ++ signed_decimal low

-- tableswitch LOW, a label a line, default : L
unfoldable pub table_line : TableSwitch → List ℕ
table_line t = low_line t.low ++ flat_map target_line t.targets ++ default_line t.default

unfoldable pub pair_line : SwitchPair → List ℕ
pair_line p = codes "\n  " ++ signed_decimal p.key ++ codes " : L" ++ decimal p.target

-- lookupswitch, KEY : L a line, default : L
unfoldable pub lookup_line : LookupSwitch → List ℕ
lookup_line l = codes "lookupswitch" ++ flat_map pair_line l.pairs ++ default_line l.default

unfoldable pub plain_line : Plain → List ℕ
plain_line (plain.Simple op) = simple_line op
plain_line (plain.PushByte n) = codes "bipush " ++ signed_decimal n
plain_line (plain.PushShort n) = codes "sipush " ++ signed_decimal n
plain_line (plain.Load t n) = operand_letter t ++ codes "load " ++ decimal n
plain_line (plain.Store t n) = operand_letter t ++ codes "store " ++ decimal n
plain_line (plain.Increment n by) = codes "iinc " ++ decimal n ++ codes " " ++ signed_decimal by
plain_line (plain.Branch op target) = branch_mnemonic op ++ codes " L" ++ decimal target
plain_line (plain.TableSwitch t) = table_line t
plain_line (plain.LookupSwitch l) = lookup_line l

unfoldable pub constant_line : Constant → List ℕ
constant_line (constant.Int n) = codes "ldc " ++ signed_decimal n
constant_line (constant.Long n) = codes "ldc2_w " ++ signed_decimal n
constant_line (constant.String units) = codes "ldc \"" ++ string_text units ++ codes "\""

-- what invokeinterface counts: the argument slots and the receiver's (JVMS 6.5); 256 for more
unfoldable pub count_line : InvokeOp → MethodRef → List ℕ
count_line invoke.Interface m = codes " " ++ decimal (min (argument_slots m.descriptor + 1) 256)
count_line _ m = []

unfoldable pub invoke_line : InvokeOp → MethodRef → List ℕ
invoke_line op m = invoke_mnemonic op ++ codes " " ++ method_ref_line m ++ count_line op m

-- in how many dimensions multianewarray makes arrays
unfoldable pub dimensions_line : TypeOp → List ℕ
dimensions_line (type_op.NewArrays d) = codes " " ++ decimal d
dimensions_line _ = []

unfoldable pub type_op_line : TypeOp → ClassRef → List ℕ
type_op_line op class = type_mnemonic op ++ codes " " ++ class_line class ++ dimensions_line op

unfoldable pub instr_line : Instr → List ℕ
instr_line (instr.Plain p) = plain_line p
instr_line (instr.Array op) = array_line op
instr_line (instr.Return op) = return_mnemonic op
instr_line instr.Throw = codes "athrow"
instr_line (instr.Monitor op) = monitor_mnemonic op
instr_line (instr.Constant c) = constant_line c
instr_line (instr.Field op f) = field_mnemonic op ++ codes " " ++ field_ref_line f
instr_line (instr.Invoke op m) = invoke_line op m
instr_line (instr.New name) = codes "new " ++ name_text name
instr_line (instr.Type op class) = type_op_line op class
