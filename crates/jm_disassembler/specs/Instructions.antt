-- The lines of an instruction, its operands in one column (Jasmin User Guide, "Instructions").
use Rattle.std.specs.Prelude.{ℕ, ◌+◌, ◌-◌, List, [], ◌++◌, length, replicate, codes, min}
use Rattle.std.specs.List.{flat_map}
use Rattle.std.specs.Fmt.{decimal, signed_decimal}
use Rattle.jm_program.specs.Descriptors.{argument_slots}
use Rattle.jm_program.specs.JasminUnits.{name_text, string_text}
use Rattle.jm_program.specs.JasminTypes.{class_line, field_ref_line, method_ref_line}
use Rattle.jm_program.specs.JasminInstructions.{simple_line, dimensions_line}
use Rattle.jm_program.specs.Mnemonics.{operand_letter, branch_mnemonic, array_line, primitive_name, return_mnemonic, monitor_mnemonic, field_mnemonic, invoke_mnemonic, type_mnemonic}
use Rattle.jm_program.specs.declared.constant.Constant.{Constant}
use Rattle.jm_program.specs.declared.constant.Constant.TheVariants as constant
use Rattle.jm_program.specs.declared.instruction.operation.ArrayOp.{ArrayOp}
use Rattle.jm_program.specs.declared.instruction.operation.ArrayOp.TheVariants as array
use Rattle.jm_program.specs.declared.instruction.operation.InvokeOp.{InvokeOp}
use Rattle.jm_program.specs.declared.instruction.operation.InvokeOp.TheVariants as invoke
use Rattle.jm_program.specs.declared.instruction.plain.SwitchPair.{SwitchPair}
use Rattle.jm_program.specs.declared.instruction.plain.TableSwitch.{TableSwitch}
use Rattle.jm_program.specs.declared.instruction.plain.LookupSwitch.{LookupSwitch}
use Rattle.jm_program.specs.declared.instruction.plain.Plain.{Plain}
use Rattle.jm_program.specs.declared.instruction.plain.Plain.TheVariants as plain
use Rattle.jm_program.specs.declared.instruction.symbolic.Instr.{Instr}
use Rattle.jm_program.specs.declared.instruction.symbolic.Instr.TheVariants as instr
use Rattle.jm_program.specs.declared.reference.MethodRef.{MethodRef}
use Rattle.jm_disassembler.specs.Labels.{label_name}

-- a mnemonic, and blanks up to the column of the operands
abbrev pub front : List ℕ → List ℕ
front mnemonic = mnemonic ++ replicate (16 - length mnemonic) 32

-- ---- switches, behind the end of their first line

unfoldable pub target_row : ℕ → List ℕ
target_row target = codes "    " ++ (label_name target ++ codes "\n")

unfoldable pub default_row : ℕ → List ℕ
default_row target = codes "    default : " ++ (label_name target ++ codes "\n")

unfoldable pub pair_row : SwitchPair → List ℕ
pair_row p = codes "    " ++ (signed_decimal p.key ++ (codes " : " ++ (label_name p.target ++ codes "\n")))

unfoldable pub table_rows : TableSwitch → List ℕ
table_rows t = flat_map target_row t.targets ++ default_row t.default

unfoldable pub lookup_rows : LookupSwitch → List ℕ
lookup_rows l = flat_map pair_row l.pairs ++ default_row l.default

-- ---- the first line

unfoldable pub plain_text : Plain → List ℕ
plain_text (plain.Simple op) = simple_line op
plain_text (plain.PushByte n) = front (codes "bipush") ++ signed_decimal n
plain_text (plain.PushShort n) = front (codes "sipush") ++ signed_decimal n
plain_text (plain.Load t n) = front (operand_letter t ++ codes "load") ++ decimal n
plain_text (plain.Store t n) = front (operand_letter t ++ codes "store") ++ decimal n
plain_text (plain.Increment n by) = front (codes "iinc") ++ (decimal n ++ (codes " " ++ signed_decimal by))
plain_text (plain.Branch op target) = front (branch_mnemonic op) ++ label_name target
plain_text (plain.TableSwitch t) = front (codes "tableswitch") ++ signed_decimal t.low
plain_text (plain.LookupSwitch l) = codes "lookupswitch"

unfoldable pub array_text : ArrayOp → List ℕ
array_text (array.New t) = front (codes "newarray") ++ primitive_name t
array_text op = array_line op

unfoldable pub constant_text : Constant → List ℕ
constant_text (constant.Int n) = front (codes "ldc") ++ signed_decimal n
constant_text (constant.Long n) = front (codes "ldc2_w") ++ signed_decimal n
constant_text (constant.String units) = front (codes "ldc") ++ (codes "\"" ++ (string_text units ++ codes "\""))

-- what invokeinterface counts: the argument slots and the receiver's; 256 for more, which no class has
unfoldable pub count_text : InvokeOp → MethodRef → List ℕ
count_text invoke.Interface m = codes " " ++ decimal (min (argument_slots m.descriptor + 1) 256)
count_text _ m = []

unfoldable pub instr_text : Instr → List ℕ
instr_text (instr.Plain p) = plain_text p
instr_text (instr.Array op) = array_text op
instr_text (instr.Return op) = return_mnemonic op
instr_text instr.Throw = codes "athrow"
instr_text (instr.Monitor op) = monitor_mnemonic op
instr_text (instr.Constant c) = constant_text c
instr_text (instr.Field op f) = front (field_mnemonic op) ++ field_ref_line f
instr_text (instr.Invoke op m) = front (invoke_mnemonic op) ++ (method_ref_line m ++ count_text op m)
instr_text (instr.New name) = front (codes "new") ++ name_text name
instr_text (instr.Type op class) = front (type_mnemonic op) ++ (class_line class ++ dimensions_line op)

-- the lines behind it
unfoldable pub rows_text : Instr → List ℕ
rows_text (instr.Plain (plain.TableSwitch t)) = table_rows t
rows_text (instr.Plain (plain.LookupSwitch l)) = lookup_rows l
rows_text _ = []
