-- Each form at a line, and one text whose spacing changes.
use Rattle.std.proofs.Common.{Option, Ok, ◌≡◌, ℕ, negsuc, List, [], false, ◌∷◌, Some, None, codes, refl}
use Rattle.std.specs.Str.{chars}
use Rattle.jm_program.specs.Mnemonics.{operand_letter, integral_letter, index_digit, small_int_digit, small_long_digit, stack_mnemonic, arithmetic_name}
use Rattle.jm_program.specs.Mnemonics.{shift_name, bitwise_name, conversion_mnemonic, comparison_name, equality_name, null_mnemonic, branch_mnemonic}
use Rattle.jm_program.specs.Mnemonics.{array_letter, array_line, return_mnemonic, monitor_mnemonic, field_mnemonic, invoke_mnemonic, type_mnemonic}
use Rattle.jm_program.specs.JasminInstructions.{simple_line}
use Rattle.jm_program.specs.DescriptorReading.{base_of, class_at, letter_at, element_at, field_at, parameters_at, whole_field, whole_return, whole_method}
use Rattle.jm_program.specs.DescriptorReading.{whole_descriptor}
use Rattle.jm_program.specs.declared.class.Field.{Field}
use Rattle.jm_program.specs.declared.constant.Constant.{Constant}
use Rattle.jm_program.specs.declared.constant.Constant.TheVariants as constant
use Rattle.jm_program.specs.declared.descriptor.BaseType.TheVariants as base
use Rattle.jm_program.specs.declared.descriptor.ElementType.TheVariants as element
use Rattle.jm_program.specs.declared.instruction.operation.Branch.TheVariants as branch_op
use Rattle.jm_program.specs.declared.instruction.operation.OperandType.TheVariants as operand
use Rattle.jm_program.specs.declared.instruction.plain.Plain.TheVariants as plain_instr
use Rattle.jm_program.specs.declared.instruction.symbolic.Instr.TheVariants as instr
use Rattle.jm_class_format.specs.Mnemonics.{left_out_mnemonic}
use Rattle.jm_class_format.specs.Opcodes.{constants, loads, stores, stack, math, conversions, comparisons, control, references, extended}
use Rattle.jm_class_format.specs.Symbols.{class_name_of, field_name_of, method_name_of, descriptor_of, field_only, method_only, left_out_method_type}
use Rattle.jm_class_format.specs.Symbols.{field_type_of, with_slots, method_type_of}
use Rattle.jm_class_format.specs.declared.opcode.Opcode.TheVariants as opcode
use Rattle.jm_jasmin_lex.specs.Integers.{numeral, integer_of}
use Rattle.jm_jasmin_lex.specs.Signs.{sign_of, signs, opened, in_text, in_escape, in_digits, step}
use Rattle.jm_jasmin_lex.specs.Tokens.{next_line, lexed_from, lexed_of}
use Rattle.jm_jasmin_ops.specs.Mnemonics.{mnemonic, in_rows, opcode_named}
use Rattle.jm_jasmin_ops.specs.Profile.{is_signed, is_digit, is_digits, is_signed_digits, is_offset, has_colon}
use Rattle.jm_jasmin_ops.specs.declared.labelled.LabelledInstr.TheVariants as labelled
use Rattle.jm_jasmin.specs.Header.{digits_from, decimal, version_in}
use Rattle.jm_jasmin.specs.Words.{flag_named}
use Rattle.jm_jasmin.specs.Fields.{value_kind}
use Rattle.jm_jasmin.specs.MethodHeader.{is_misplaced_abstract, left_out_method}
use Rattle.jm_jasmin.specs.Items.{without_last}
use Rattle.jm_jasmin.specs.declared.item.Item.TheVariants as item
use Rattle.jm_jasmin.specs.WordForms.{Line, bare, lines_said}
use Rattle.jm_jasmin.specs.HeaderForms.{VersionLine, SourceLine, ClassLine, SuperLine, ImplementsLine}
use Rattle.jm_jasmin.specs.HeaderForms.VersionLine.{bytecode}
use Rattle.jm_jasmin.specs.HeaderForms.SourceLine.{source}
use Rattle.jm_jasmin.specs.HeaderForms.Flags.{none, flag}
use Rattle.jm_jasmin.specs.HeaderForms.ClassLine.{class, interface}
use Rattle.jm_jasmin.specs.HeaderForms.SuperLine.{super}
use Rattle.jm_jasmin.specs.HeaderForms.ImplementsLine.{implements}
use Rattle.jm_jasmin.specs.FieldForms.{FieldLine}
use Rattle.jm_jasmin.specs.FieldForms.Value.{int}
use Rattle.jm_jasmin.specs.FieldForms.FieldLine.{plain, valued}
use Rattle.jm_jasmin.specs.InstructionForms.{InstructionLine}
use Rattle.jm_jasmin.specs.InstructionForms.InstructionLine.{named, branch}
use Rattle.jm_jasmin.specs.InstructionForms.Operands.{load}
use Rattle.jm_jasmin.specs.MethodForms.{without_code, catch_row, catch_words, MethodLine, BodyLine, BodyLines}
use Rattle.jm_jasmin.specs.MethodForms.MethodLine.{method}
use Rattle.jm_jasmin.specs.MethodForms.BodyLine.{locals, source_line, catch, throws, var, label, instruction}
use Rattle.jm_jasmin.specs.MethodForms.BodyLines.{ends, and_line}
use Rattle.jm_jasmin.specs.MethodForms.MethodLines.{method as method_lines}
use Rattle.jm_jasmin.specs.Each.AtMostOne.{left_out}
use Rattle.jm_jasmin.specs.Each.EachOf.{none as each_none, more}
use Rattle.jm_jasmin.specs.ClassForms.{ClassLines}
use Rattle.jm_jasmin.specs.ClassForms.ClassLines.{class_lines}
use Rattle.jm_bytes.specs.Reading.{each}
use Rattle.jm_program.specs.declared.code.Code.{Code}
use Rattle.jm_program.specs.declared.descriptor.MethodDescriptor.{MethodDescriptor}
use Rattle.jm_jasmin.specs.Body.{tables_of, empty_range, checked_locals, checked_count, code_of}
use Rattle.jm_jasmin.specs.Labels.{target, instruction_of, part_of}
use Rattle.jm_jasmin.specs.Methods.{with_code}
use Rattle.jm_jasmin.specs.Items.{instruction_count, label_value, stack_limit, locals_limit, instruction_accepted}
use Rattle.jm_jasmin.specs.declared.item.Item.{Item}

-- one word, and the words of a directive with one operand
abbrev one : List ℕ → Line
one text = bare text ∷ []

abbrev two : List ℕ → List ℕ → Line
two text operand = bare text ∷ bare operand ∷ []

-- ---- the lines before the fields

a_version : VersionLine (two (codes ".bytecode") (codes "50.0")) (record { major = 50; minor = 0 })
unfolding chars version_in decimal digits_from
a_version = bytecode (codes "50.0") _ refl

a_source : SourceLine (two (codes ".source") (codes "A.j")) (codes "A.j")
unfolding chars
a_source = source (codes "A.j")

a_class : ClassLine (bare (codes ".class") ∷ bare (codes "public") ∷ bare (codes "a/B") ∷ []) (record { flags = record { bits = 0x21 }; name = codes "a/B" })
unfolding chars flag_named class_name_of
a_class = class (one (codes "public")) (codes "a/B") (codes "a/B") 0x21 (flag 0x20 1 (codes "public") refl (none 0x21)) refl

an_interface : ClassLine (two (codes ".interface") (codes "I")) (record { flags = record { bits = 0x600 }; name = codes "I" })
unfolding chars class_name_of
an_interface = interface [] (codes "I") (codes "I") 0x600 (none 0x600) refl

a_superclass : SuperLine (two (codes ".super") (codes "java/lang/Object")) (codes "java/lang/Object")
unfolding chars class_name_of
a_superclass = super (codes "java/lang/Object") (codes "java/lang/Object") refl

an_implemented : ImplementsLine (two (codes ".implements") (codes "I")) (codes "I")
unfolding chars class_name_of
an_implemented = implements (codes "I") (codes "I") refl

-- ---- fields and methods

abbrev int_field : ℕ → List ℕ → Option Constant → Field
int_field bits name value = record {
  flags = record { bits = bits };
  name = name;
  descriptor = record { dimensions = 0; element = element.Base base.Int };
  constant = value;
}

a_field : FieldLine (bare (codes ".field") ∷ bare (codes "private") ∷ bare (codes "x") ∷ bare (codes "I") ∷ [])
    (int_field 2 (codes "x") None)
unfolding chars flag_named field_name_of field_type_of descriptor_of field_only base_of class_at letter_at element_at field_at whole_field
    whole_descriptor
a_field = plain (one (codes "private")) (codes "x") (codes "I") (codes "x") 2 _ (flag 0 2 (codes "private") refl (none 2)) refl refl refl

a_constant : FieldLine (bare (codes ".field") ∷ bare (codes "static") ∷ bare (codes "x") ∷ bare (codes "I") ∷ bare (codes "=") ∷ bare (codes "-7") ∷ [])
    (int_field 8 (codes "x") (Some (constant.Int (negsuc 6))))
unfolding chars flag_named field_name_of field_type_of descriptor_of field_only base_of class_at letter_at element_at field_at whole_field
    whole_descriptor value_kind numeral integer_of
a_constant =
    valued (one (codes "static")) (codes "x") (codes "I") (codes "x") 8 _
    (bare (codes "-7")) _ (constant.Int (negsuc 6)) (flag 0 8 (codes "static") refl (none 8))
    refl refl refl refl (int (codes "-7") (negsuc 6) refl refl)

a_method : MethodLine false (bare (codes ".method") ∷ bare (codes "static") ∷ bare (codes "f(I)V") ∷ [])
    (without_code 8 (codes "f") (record { parameters = (record { dimensions = 0; element = element.Base base.Int }) ∷ []; return_type = None }))
unfolding chars flag_named method_name_of method_type_of descriptor_of method_only with_slots left_out_method_type base_of class_at letter_at
    element_at field_at parameters_at whole_field whole_return whole_method whole_descriptor is_misplaced_abstract left_out_method
a_method = method (one (codes "static")) (codes "f(I)V") (codes "f") (codes "I)V") 8 _ (flag 0 8 (codes "static") refl (none 8)) refl refl refl refl refl refl

-- ---- the lines of a body

a_limit : BodyLine 0 (bare (codes ".limit") ∷ bare (codes "locals") ∷ bare (codes "3") ∷ []) (item.LocalsLimit 3)
unfolding numeral integer_of
a_limit = locals (codes "3") 3 (record { value = refl; fits = refl })

a_line_number : BodyLine 4 (two (codes ".line") (codes "12")) (item.Line (record { start = 4; line = 12 }))
unfolding numeral integer_of
a_line_number = source_line (codes "12") 12 (record { value = refl; fits = refl })

a_catch : BodyLine 4
    (catch_words (codes "E") (codes "A") (codes "B") (codes "C"))
    (item.Catch (catch_row (Some (codes "E")) (codes "A") (codes "B") (codes "C")))
unfolding chars class_name_of
a_catch = catch (codes "E") (codes "A") (codes "B") (codes "C") (codes "E") refl refl

what_is_thrown : BodyLine 4 (two (codes ".throws") (codes "E")) item.Dropped
what_is_thrown = throws (codes "E")

a_variable : BodyLine 4 (two (codes ".var") (codes "0")) item.Dropped
a_variable = var (one (codes "0"))

a_label : BodyLine 4 (one (codes "Loop:")) (item.Label (codes "Loop") 4)
unfolding chars without_last
a_label = label (codes "Loop:") refl

a_load : InstructionLine (two (codes "iload") (codes "300")) (labelled.Named (instr.Plain (plain_instr.Load operand.Int 300)))
unfolding opcode_named in_rows mnemonic left_out_mnemonic simple_line operand_letter integral_letter index_digit small_int_digit small_long_digit
    stack_mnemonic arithmetic_name shift_name bitwise_name conversion_mnemonic comparison_name equality_name null_mnemonic branch_mnemonic
    array_letter array_line return_mnemonic monitor_mnemonic field_mnemonic invoke_mnemonic type_mnemonic constants loads stores stack math
    conversions comparisons control references extended numeral integer_of
a_load = named (codes "iload") (opcode.Load operand.Int) (one (codes "300")) _ refl (load operand.Int (codes "300") 300 (record { value = refl; fits = refl }))

a_jump : InstructionLine (two (codes "goto") (codes "Loop")) (labelled.Branch branch_op.Goto (record { name = codes "Loop"; line = 0 }))
unfolding opcode_named in_rows mnemonic left_out_mnemonic simple_line operand_letter integral_letter index_digit small_int_digit small_long_digit
    stack_mnemonic arithmetic_name shift_name bitwise_name conversion_mnemonic comparison_name equality_name null_mnemonic branch_mnemonic
    array_letter array_line return_mnemonic monitor_mnemonic field_mnemonic invoke_mnemonic type_mnemonic constants loads stores stack math
    conversions comparisons control references extended is_signed is_digit is_digits is_signed_digits is_offset has_colon
a_jump = branch (codes "goto") (codes "Loop") branch_op.Goto refl (record { no_offset = refl; no_colon = refl })

-- ---- a whole class

-- a loop without an end, between a label and a jump to it
loop_lines : List Line
loop_lines =
    (bare (codes ".method") ∷ bare (codes "static") ∷ bare (codes "f()V") ∷ []) ∷ one (codes "Loop:") ∷ two (codes "goto") (codes "Loop")
    ∷ two (codes ".end") (codes "method") ∷ []

loop_code : Code
loop_code = record { max_stack = 1; max_locals = 1; instructions = instr.Plain (plain_instr.Branch branch_op.Goto 0) ∷ []; handlers = []; lines = [] }

loop_type : MethodDescriptor
loop_type = record { parameters = []; return_type = None }

loop_items : List Item
loop_items = item.Label (codes "Loop") 0 ∷ item.Instruction (labelled.Branch branch_op.Goto (record { name = codes "Loop"; line = 0 })) ∷ []

loop_body : BodyLines (without_code 8 (codes "f") loop_type) [] (one (codes "Loop:") ∷ two (codes "goto") (codes "Loop") ∷ []) loop_items
unfolding loop_type loop_items chars without_last instruction_count label_value instruction_accepted is_signed is_digit is_digits
    is_signed_digits is_offset has_colon opcode_named in_rows mnemonic left_out_mnemonic simple_line operand_letter integral_letter index_digit
    small_int_digit small_long_digit stack_mnemonic arithmetic_name shift_name bitwise_name conversion_mnemonic comparison_name equality_name
    null_mnemonic branch_mnemonic array_letter array_line return_mnemonic monitor_mnemonic field_mnemonic invoke_mnemonic type_mnemonic constants
    loads stores stack math conversions comparisons control references extended
loop_body =
    and_line [] (one (codes "Loop:")) (item.Label (codes "Loop") 0) (label (codes "Loop:") refl) refl
    (and_line (item.Label (codes "Loop") 0 ∷ []) (two (codes "goto") (codes "Loop")) _
    (instruction _ _ (branch (codes "goto") (codes "Loop") branch_op.Goto refl (record { no_offset = refl; no_colon = refl }))) refl
    (ends _))

loop_is : code_of (without_code 8 (codes "f") loop_type) 0 0 loop_items ≡ Ok (Some loop_code)
unfolding loop_type loop_items loop_code chars code_of checked_locals checked_count locals_limit stack_limit label_value instruction_count
    empty_range each part_of instruction_of target tables_of
loop_is = refl

loop_class : ClassLines (two (codes ".class") (codes "A") ∷ two (codes ".super") (codes "B") ∷ loop_lines) (record {
  version = record { major = 49; minor = 0 };
  flags = record { bits = 0x20 };
  name = codes "A";
  superclass = Some (codes "B");
  interfaces = [];
  fields = [];
  methods = with_code (without_code 8 (codes "f") loop_type) (Some loop_code) ∷ [];
  source_file = None;
})
unfolding loop_lines loop_type chars class_name_of flag_named method_name_of method_type_of descriptor_of method_only with_slots
    left_out_method_type base_of class_at letter_at element_at field_at parameters_at whole_field whole_return whole_method whole_descriptor
    is_misplaced_abstract left_out_method
loop_class =
    class_lines [] [] (two (codes ".class") (codes "A")) (two (codes ".super") (codes "B")) [] [] loop_lines None None
    (record { flags = record { bits = 0x20 }; name = codes "A" }) (codes "B") [] [] _ left_out left_out
    (class [] (codes "A") (codes "A") 0x20 (none 0x20) refl) (super (codes "B") (codes "B") refl) each_none each_none
    (more loop_lines _ (method_lines _ _ (without_code 8 (codes "f") loop_type) loop_items (Some loop_code)
    (method (one (codes "static")) (codes "f()V") (codes "f") (codes ")V") 8 loop_type (flag 0 8 (codes "static") refl (none 8))
    refl refl refl refl refl refl) loop_body loop_is) each_none)

-- ---- spacing

-- blanks, a comment, empty lines and the ends of lines leave the lines of words and strings as they are
spaced : lines_said (lexed_of (codes ".class  A ; the class\r\n\n.super\tB")).tokens ≡ lines_said (lexed_of (codes ".class A\n.super B\n")).tokens
unfolding sign_of signs opened in_text in_escape in_digits step next_line lexed_from lexed_of lines_said
spaced = refl

their_lines : lines_said (lexed_of (codes ".class  A ; the class\r\n\n.super\tB")).tokens
    ≡ two (codes ".class") (codes "A") ∷ two (codes ".super") (codes "B") ∷ []
unfolding sign_of signs opened in_text in_escape in_digits step next_line lexed_from lexed_of lines_said
their_lines = refl
