use Rattle.std.proofs.Common.{refl}
use Rattle.jm_program.specs.Mnemonics.{operand_letter, integral_letter, index_digit, small_int_digit, small_long_digit, stack_mnemonic, arithmetic_name, shift_name, bitwise_name, conversion_mnemonic, comparison_name, equality_name, null_mnemonic, branch_mnemonic, array_letter, array_line, return_mnemonic, monitor_mnemonic, field_mnemonic, invoke_mnemonic, type_mnemonic}
use Rattle.jm_program.specs.JasminInstructions.{simple_line}
use Rattle.jm_class_format.specs.Opcodes.{opcodes, constants, loads, stores, stack, math, conversions, comparisons, control, references, extended}
use Rattle.jm_class_format.specs.Mnemonics.{left_out_mnemonic, mnemonic}
use Rattle.jm_class_format.proofs.opcode_table.opcodes.Goals as goal

pub returns : goal.returns
unfolding opcodes mnemonic left_out_mnemonic simple_line operand_letter integral_letter index_digit small_int_digit small_long_digit stack_mnemonic arithmetic_name shift_name bitwise_name conversion_mnemonic comparison_name equality_name null_mnemonic branch_mnemonic array_letter array_line return_mnemonic monitor_mnemonic field_mnemonic invoke_mnemonic type_mnemonic constants loads stores stack math conversions comparisons control references extended
returns c = record { meanings = refl; mnemonics = refl }
