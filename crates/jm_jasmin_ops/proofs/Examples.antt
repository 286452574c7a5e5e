-- Which instruction tokens spell, and which fault comes first, at one text for each shape of operands.
use Rattle.std.proofs.Common.{◌≡◌, ℕ, pos, negsuc, List, [], ◌∷◌, ◌++◌, None, Result, Ok, Err, codes, refl}
use Rattle.jm_jasmin_lex.specs.Token.{TokenParts}
use Rattle.jm_jasmin_lex.specs.declared.token.TokenKind.TheVariants as kind
use Rattle.jm_program.specs.declared.instruction.operation.Branch.TheVariants as branch
use Rattle.jm_program.specs.declared.instruction.operation.InvokeOp.TheVariants as invoke
use Rattle.jm_program.specs.declared.instruction.operation.FieldOp.TheVariants as field
use Rattle.jm_program.specs.declared.instruction.operation.TypeOp.TheVariants as type
use Rattle.jm_program.specs.declared.instruction.operation.ArrayOp.TheVariants as array
use Rattle.jm_program.specs.declared.instruction.operation.PrimitiveType.TheVariants as primitive
use Rattle.jm_program.specs.declared.instruction.operation.OperandType.TheVariants as operand
use Rattle.jm_program.specs.declared.instruction.operation.Arithmetic.TheVariants as arithmetic
use Rattle.jm_program.specs.declared.instruction.operation.Integral.TheVariants as integral
use Rattle.jm_program.specs.declared.instruction.plain.Simple.TheVariants as simple
use Rattle.jm_program.specs.declared.instruction.plain.Plain.TheVariants as plain
use Rattle.jm_program.specs.declared.instruction.symbolic.Instr.TheVariants as instr
use Rattle.jm_program.specs.declared.constant.Constant.TheVariants as constant
use Rattle.jm_program.specs.declared.reference.ClassRef.TheVariants as class_ref_is
use Rattle.jm_program.specs.declared.descriptor.BaseType.TheVariants as base
use Rattle.jm_program.specs.declared.descriptor.ElementType.TheVariants as element
use Rattle.jm_class_format.specs.declared.opcode.LeftOutOp.TheVariants as left_out
use Rattle.jm_class_format.specs.declared.read_fault.LeftOutPart.TheVariants as part
use Rattle.jm_jasmin_ops.specs.declared.directive.LeftOutDirective.TheVariants as directive
use Rattle.jm_jasmin_ops.specs.Label.{LabelParts}
use Rattle.jm_jasmin_ops.specs.declared.labelled.LabelledInstr.{LabelledInstr}
use Rattle.jm_jasmin_ops.specs.declared.labelled.LabelledInstr.TheVariants as labelled
use Rattle.jm_jasmin_ops.specs.declared.labelled.Line.{Line}
use Rattle.jm_jasmin_ops.specs.declared.fault.AsmLeftOut.TheVariants as what
use Rattle.jm_jasmin_ops.specs.declared.fault.AsmFault.{AsmFault}
use Rattle.jm_jasmin_ops.specs.declared.fault.AsmFault.TheVariants as fault
use Rattle.jm_program.specs.Mnemonics.{operand_letter, integral_letter, index_digit, small_int_digit, small_long_digit, stack_mnemonic, arithmetic_name, shift_name, bitwise_name, conversion_mnemonic, comparison_name, equality_name, null_mnemonic, branch_mnemonic, array_letter, array_line, return_mnemonic, monitor_mnemonic, field_mnemonic, invoke_mnemonic, type_mnemonic}
use Rattle.jm_program.specs.JasminInstructions.{simple_line}
use Rattle.jm_class_format.specs.Opcodes.{constants, loads, stores, stack, math, conversions, comparisons, control, references, extended}
use Rattle.jm_jasmin_lex.specs.Lines.{line_len, first_line}
use Rattle.jm_jasmin_lex.specs.Integers.{numeral, integer_of}
use Rattle.jm_jasmin_lex.specs.Literals.{hexadecimal_value, escaped_unit, part_after, units_at, units_from, units_of_literal}
use Rattle.jm_class_format.specs.Instructions.{natural}
use Rattle.jm_class_format.specs.Symbols.{class_name_of, field_name_of, method_name_of, invoked_name_of, descriptor_of, field_only, method_only, left_out_method_type, field_type_of, with_slots, method_type_of, class_ref_of, element_ref, dimensioned_ref, method_ref_of}
use Rattle.std.specs.Str.{chars}
use Rattle.jm_class_format.specs.Mnemonics.{left_out_mnemonic}
use Rattle.jm_jasmin_ops.specs.Mnemonics.{mnemonic, in_rows, opcode_named}
use Rattle.jm_jasmin_ops.specs.Profile.{is_signed, unsigned, is_digit, is_digits, is_exponent, is_fraction, is_real_behind, is_unsigned_real, is_real, is_signed_digits, is_offset, has_colon, unknown_word}
use Rattle.jm_jasmin_ops.specs.Words.{word, label}
use Rattle.jm_jasmin_ops.specs.Operands.{integer, ranged, natural_within, loaded, loaded_long, element_type, units, class_name, class_ref, dimensions, member, field_named, field_typed, method, counted}
use Rattle.jm_jasmin_ops.specs.Switches.{with_token, lines_of, keyed_row, row_of, table_step, table_rows, lookup_step, lookup_rows}
use Rattle.jm_jasmin_ops.specs.Instruction.{named_instr, table_instr, lookup_instr, operands, instruction_in, instruction_at}
use Rattle.jm_program.specs.DescriptorReading.{base_of, class_at, letter_at, element_at, field_at, parameters_at, whole_field, whole_return, whole_method, whole_descriptor}

-- a word and a string of a line
abbrev w : ℕ → List ℕ → TokenParts
w line text = record { kind = kind.Word; text = text; start = 0; line = line }

abbrev s : ℕ → List ℕ → TokenParts
s line text = record { kind = kind.Text; text = text; start = 0; line = line }

abbrev at : ℕ → List ℕ → LabelParts
at line name = record { name = name; line = line }

abbrev found : LabelledInstr → ℕ → Result Line AsmFault
found i used = Ok (record { instruction = i; used = used })

-- the reading of an instruction, with all that it computes with: each example unfolds it
reading : List TokenParts → Result Line AsmFault
unfolding operand_letter integral_letter index_digit small_int_digit small_long_digit stack_mnemonic arithmetic_name shift_name bitwise_name
    conversion_mnemonic comparison_name equality_name null_mnemonic branch_mnemonic array_letter array_line return_mnemonic monitor_mnemonic
    field_mnemonic invoke_mnemonic type_mnemonic simple_line constants loads stores stack math conversions comparisons control references extended
    line_len first_line numeral integer_of hexadecimal_value escaped_unit part_after units_at units_from units_of_literal natural class_name_of
    field_name_of method_name_of invoked_name_of descriptor_of field_only method_only left_out_method_type field_type_of with_slots method_type_of
    class_ref_of element_ref dimensioned_ref method_ref_of chars left_out_mnemonic mnemonic in_rows opcode_named word label integer ranged
    natural_within loaded loaded_long element_type units class_name class_ref dimensions member field_named field_typed method counted with_token
    lines_of keyed_row row_of table_step table_rows lookup_step lookup_rows named_instr table_instr lookup_instr operands instruction_in
    instruction_at base_of class_at letter_at element_at field_at parameters_at whole_field whole_return whole_method whole_descriptor is_signed
    unsigned is_digit is_digits is_exponent is_fraction is_real_behind is_unsigned_real is_real is_signed_digits is_offset has_colon unknown_word
reading = instruction_at

-- an instruction without operands
none : instruction_at (w 6 (codes "iadd") ∷ []) ≡ found (labelled.Named (instr.Plain (plain.Simple (simple.Arithmetic arithmetic.Add integral.Int)))) 1
unfolding reading
none = refl

-- a word too many is 41
none-more : instruction_at (w 6 (codes "iadd") ∷ w 6 (codes "1") ∷ []) ≡ Err (fault.Syntax 6)
unfolding reading
none-more = refl

-- bipush of the least byte
byte : instruction_at (w 6 (codes "bipush") ∷ w 6 (codes "-128") ∷ []) ≡ found (labelled.Named (instr.Plain (plain.PushByte (negsuc 127)))) 2
unfolding reading
byte = refl

-- of a hexadecimal number
byte-hexadecimal : instruction_at (w 6 (codes "bipush") ∷ w 6 (codes "0x7F") ∷ []) ≡ found (labelled.Named (instr.Plain (plain.PushByte (pos 127)))) 2
unfolding reading
byte-hexadecimal = refl

-- 128 is no byte
byte-past : instruction_at (w 6 (codes "bipush") ∷ w 6 (codes "128") ∷ []) ≡ Err (fault.Syntax 6)
unfolding reading
byte-past = refl

-- a missing operand is 41
byte-missing : instruction_at (w 6 (codes "bipush") ∷ []) ≡ Err (fault.Syntax 6)
unfolding reading
byte-missing = refl

-- a local variable
local : instruction_at (w 6 (codes "lload") ∷ w 6 (codes "65535") ∷ []) ≡ found (labelled.Named (instr.Plain (plain.Load operand.Long 65535))) 2
unfolding reading
local = refl

-- a local variable and a number
iinc : instruction_at (w 6 (codes "iinc") ∷ w 6 (codes "1") ∷ w 6 (codes "-3") ∷ []) ≡ found (labelled.Named (instr.Plain (plain.Increment 1 (negsuc 2)))) 3
unfolding reading
iinc = refl

-- ldc of a string
string : instruction_at (w 6 (codes "ldc") ∷ s 6 (34 ∷ codes "a" ++ 34 ∷ []) ∷ []) ≡ found (labelled.Named (instr.Constant (constant.String (codes "a")))) 2
unfolding reading
string = refl

-- ldc2_w of a long
long : instruction_at (w 6 (codes "ldc2_w") ∷ w 6 (codes "-1") ∷ []) ≡ found (labelled.Named (instr.Constant (constant.Long (negsuc 0)))) 2
unfolding reading
long = refl

-- newarray
array-element : instruction_at (w 6 (codes "newarray") ∷ w 6 (codes "int") ∷ []) ≡ found (labelled.Named (instr.Array (array.New primitive.Int))) 2
unfolding reading
array-element = refl

-- newarray of floats is left out
float-array : instruction_at (w 6 (codes "newarray") ∷ w 6 (codes "float") ∷ []) ≡ Err (fault.LeftOut (what.Instruction left_out.FloatArray) 6)
unfolding reading
float-array = refl

-- new
new-class : instruction_at (w 6 (codes "new") ∷ w 6 (codes "a/B") ∷ []) ≡ found (labelled.Named (instr.New (codes "a/B"))) 2
unfolding reading
new-class = refl

-- checkcast of an array type
cast : instruction_at (w 6 (codes "checkcast") ∷ w 6 (codes "[I") ∷ []) ≡ found (labelled.Named (instr.Type type.CheckCast (class_ref_is.Array (record { dimensions = 1; element = element.Base base.Int })))) 2
unfolding reading
cast = refl

-- getfield: class and name are parted at the last /
get : instruction_at (w 6 (codes "getfield") ∷ w 6 (codes "a/B/x") ∷ w 6 (codes "I") ∷ []) ≡ found (labelled.Named (instr.Field field.GetField (record { class = class_ref_is.Class (codes "a/B"); name = codes "x"; descriptor = record { dimensions = 0; element = element.Base base.Int } }))) 3
unfolding reading
get = refl

-- the class goes before the type
get-bad-class : instruction_at (w 6 (codes "getfield") ∷ w 6 (codes "a.B/x") ∷ w 6 (codes "Q") ∷ []) ≡ Err (fault.BadName 6)
unfolding reading
get-bad-class = refl

-- invokevirtual: the descriptor begins at the first (
call : instruction_at (w 6 (codes "invokevirtual") ∷ w 6 (codes "a/B/m(I)V") ∷ []) ≡ found (labelled.Named (instr.Invoke invoke.Virtual (record { class = class_ref_is.Class (codes "a/B"); name = codes "m"; descriptor = record { parameters = (record { dimensions = 0; element = element.Base base.Int }) ∷ []; return_type = None } }))) 2
unfolding reading
call = refl

-- invokenonvirtual is invokespecial
nonvirtual : instruction_at (w 6 (codes "invokenonvirtual") ∷ w 6 (codes "A/m()V") ∷ []) ≡ found (labelled.Named (instr.Invoke invoke.Special (record { class = class_ref_is.Class (codes "A"); name = codes "m"; descriptor = record { parameters = []; return_type = None } }))) 2
unfolding reading
nonvirtual = refl

-- invokeinterface counts the receiver
interface : instruction_at (w 6 (codes "invokeinterface") ∷ w 6 (codes "A/m()V") ∷ w 6 (codes "1") ∷ []) ≡ found (labelled.Named (instr.Invoke invoke.Interface (record { class = class_ref_is.Class (codes "A"); name = codes "m"; descriptor = record { parameters = []; return_type = None } }))) 3
unfolding reading
interface = refl

-- another count is 45
interface-count : instruction_at (w 6 (codes "invokeinterface") ∷ w 6 (codes "A/m()V") ∷ w 6 (codes "2") ∷ []) ≡ Err (fault.BadCount 6)
unfolding reading
interface-count = refl

-- a branch
jump : instruction_at (w 6 (codes "goto") ∷ w 6 (codes "X") ∷ []) ≡ found (labelled.Branch branch.Goto (at 6 (codes "X"))) 2
unfolding reading
jump = refl

-- tableswitch
table : instruction_at (w 6 (codes "tableswitch") ∷ w 6 (codes "5") ∷ w 7 (codes "A") ∷ w 8 (codes "B") ∷ w 9 (codes "default") ∷ w 9 (codes ":") ∷ w 9 (codes "C") ∷ w 10 (codes "return") ∷ []) ≡ found (labelled.TableSwitch (record { low = pos 5; targets = at 7 (codes "A") ∷ at 8 (codes "B") ∷ []; default = at 9 (codes "C") })) 7
unfolding reading
table = refl

-- a table without targets is 45
table-empty : instruction_at (w 6 (codes "tableswitch") ∷ w 6 (codes "5") ∷ w 9 (codes "default") ∷ w 9 (codes ":") ∷ w 9 (codes "C") ∷ []) ≡ Err (fault.BadCount 9)
unfolding reading
table-empty = refl

-- a key past the last int is 45
table-past : instruction_at (w 6 (codes "tableswitch") ∷ w 6 (codes "0x7FFFFFFF") ∷ w 7 (codes "A") ∷ w 8 (codes "B") ∷ w 9 (codes "default") ∷ w 9 (codes ":") ∷ w 9 (codes "C") ∷ []) ≡ Err (fault.BadCount 8)
unfolding reading
table-past = refl

-- the end of the text in a table is 41
table-cut : instruction_at (w 6 (codes "tableswitch") ∷ w 6 (codes "5") ∷ w 7 (codes "A") ∷ []) ≡ Err (fault.Syntax 7)
unfolding reading
table-cut = refl

-- lookupswitch
lookup : instruction_at (w 6 (codes "lookupswitch") ∷ w 7 (codes "-1") ∷ w 7 (codes ":") ∷ w 7 (codes "A") ∷ w 8 (codes "0") ∷ w 8 (codes ":") ∷ w 8 (codes "B") ∷ w 9 (codes "default") ∷ w 9 (codes ":") ∷ w 9 (codes "C") ∷ []) ≡ found (labelled.LookupSwitch (record { pairs = (record { key = negsuc 0; target = at 7 (codes "A") }) ∷ (record { key = pos 0; target = at 8 (codes "B") }) ∷ []; default = at 9 (codes "C") })) 10
unfolding reading
lookup = refl

-- without pairs
lookup-empty : instruction_at (w 6 (codes "lookupswitch") ∷ w 9 (codes "default") ∷ w 9 (codes ":") ∷ w 9 (codes "C") ∷ []) ≡ found (labelled.LookupSwitch (record { pairs = []; default = at 9 (codes "C") })) 4
unfolding reading
lookup-empty = refl

-- a key that does not rise is 45
lookup-equal : instruction_at (w 6 (codes "lookupswitch") ∷ w 7 (codes "0") ∷ w 7 (codes ":") ∷ w 7 (codes "A") ∷ w 8 (codes "0") ∷ w 8 (codes ":") ∷ w 8 (codes "B") ∷ w 9 (codes "default") ∷ w 9 (codes ":") ∷ w 9 (codes "C") ∷ []) ≡ Err (fault.BadCount 8)
unfolding reading
lookup-equal = refl

-- a mnemonic that is left out is 46 whatever follows
left-out : instruction_at (w 6 (codes "fadd") ∷ w 6 (codes "1") ∷ w 6 (codes "2") ∷ []) ≡ Err (fault.LeftOut (what.Instruction left_out.FAdd) 6)
unfolding reading
left-out = refl

-- multianewarray makes arrays in some of the dimensions of its type
arrays-of-arrays : instruction_at (w 6 (codes "multianewarray") ∷ w 6 (codes "[[[I") ∷ w 6 (codes "2") ∷ []) ≡ found (labelled.Named (instr.Type (type.NewArrays 2) (class_ref_is.Array (record { dimensions = 3; element = element.Base base.Int })))) 3
unfolding reading
arrays-of-arrays = refl

-- in more than it has is 45
arrays-beyond : instruction_at (w 6 (codes "multianewarray") ∷ w 6 (codes "[[I") ∷ w 6 (codes "3") ∷ []) ≡ Err (fault.BadCount 6)
unfolding reading
arrays-beyond = refl

-- and so is in none
arrays-none : instruction_at (w 6 (codes "multianewarray") ∷ w 6 (codes "[[I") ∷ w 6 (codes "0") ∷ []) ≡ Err (fault.BadCount 6)
unfolding reading
arrays-none = refl

-- of a class that is no array type is 41
arrays-of-class : instruction_at (w 6 (codes "multianewarray") ∷ w 6 (codes "A") ∷ w 6 (codes "1") ∷ []) ≡ Err (fault.Syntax 6)
unfolding reading
arrays-of-class = refl

-- wide is not written
wide-word : instruction_at (w 6 (codes "wide") ∷ []) ≡ Err (fault.Syntax 6)
unfolding reading
wide-word = refl

-- any other word is 41
unknown : instruction_at (w 6 (codes "push") ∷ w 6 (codes "1") ∷ []) ≡ Err (fault.Syntax 6)
unfolding reading
unknown = refl

-- a number with a fraction is a float, which is left out
float : instruction_at (w 6 (codes "ldc") ∷ w 6 (codes "-1.5") ∷ []) ≡ Err (fault.LeftOut (what.Part part.FloatType) 6)
unfolding reading
float = refl

-- with an exponent, of ldc2_w, a double
double : instruction_at (w 6 (codes "ldc2_w") ∷ w 6 (codes "1e5") ∷ []) ≡ Err (fault.LeftOut (what.Part part.DoubleType) 6)
unfolding reading
double = refl

-- two points are no number
two-points : instruction_at (w 6 (codes "ldc") ∷ w 6 (codes "1.2.3") ∷ []) ≡ Err (fault.Syntax 6)
unfolding reading
two-points = refl

-- the name of a class in ldc is left out
ldc-class : instruction_at (w 6 (codes "ldc") ∷ w 6 (codes "java/lang/String") ∷ []) ≡ Err (fault.LeftOut (what.Part part.LdcClass) 6)
unfolding reading
ldc-class = refl

-- a branch offset as a number is left out
offset : instruction_at (w 6 (codes "goto") ∷ w 6 (codes "$+3") ∷ []) ≡ Err (fault.LeftOut what.Offset 6)
unfolding reading
offset = refl

-- a directive of the guide that is not read
set : instruction_at (w 6 (codes ".set") ∷ w 6 (codes "x") ∷ w 6 (codes "1") ∷ []) ≡ Err (fault.LeftOut (what.Directive directive.Set) 6)
unfolding reading
set = refl

-- a target with a colon in it is 41, at its line
glued : instruction_at (w 6 (codes "tableswitch") ∷ w 6 (codes "0") ∷ w 7 (codes "A") ∷ w 8 (codes "default:A") ∷ []) ≡ Err (fault.Syntax 8)
unfolding reading
glued = refl
