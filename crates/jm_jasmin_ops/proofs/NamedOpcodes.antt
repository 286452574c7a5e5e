-- The opcode of each byte is the one that its mnemonic names.
use Rattle.std.proofs.Common.{◌≡◌, ℕ, Bool, true, false, List, [], ◌∷◌, Option, Some, refl, subst}
use Rattle.std.specs.Prelude.{map, nat_le, ◌==◌, if◌then◌else◌}
use Rattle.jm_class_format.specs.declared.opcode.Opcode.{Opcode}
use Rattle.jm_class_format.specs.Opcodes.{row_at, opcode_at, constants, loads, stores, stack, math, conversions, comparisons, control, references, extended}
use Rattle.jm_program.specs.Mnemonics.{operand_letter, integral_letter, index_digit, small_int_digit, small_long_digit, stack_mnemonic, arithmetic_name, shift_name, bitwise_name, conversion_mnemonic, comparison_name, equality_name, null_mnemonic, branch_mnemonic, array_letter, array_line, return_mnemonic, monitor_mnemonic, field_mnemonic, invoke_mnemonic, type_mnemonic}
use Rattle.jm_program.specs.JasminInstructions.{simple_line}
use Rattle.jm_class_format.specs.Mnemonics.{left_out_mnemonic}
use Rattle.jm_jasmin_ops.specs.Mnemonics.{mnemonic, in_rows, opcode_named, IsNamed}

-- the same of the rows of a group
abbrev AreNamed : List (ℕ × Opcode) → Type 0
AreNamed rows = map (λ (row : ℕ × Opcode). opcode_named (mnemonic row.1)) rows ≡ map (λ (row : ℕ × Opcode). Some row.1) rows

constants_named : AreNamed constants
unfolding opcode_named in_rows mnemonic left_out_mnemonic simple_line operand_letter integral_letter index_digit small_int_digit small_long_digit stack_mnemonic arithmetic_name shift_name bitwise_name conversion_mnemonic comparison_name equality_name null_mnemonic branch_mnemonic array_letter array_line return_mnemonic monitor_mnemonic field_mnemonic invoke_mnemonic type_mnemonic constants loads stores stack math conversions comparisons control references extended
constants_named = refl

loads_named : AreNamed loads
unfolding opcode_named in_rows mnemonic left_out_mnemonic simple_line operand_letter integral_letter index_digit small_int_digit small_long_digit stack_mnemonic arithmetic_name shift_name bitwise_name conversion_mnemonic comparison_name equality_name null_mnemonic branch_mnemonic array_letter array_line return_mnemonic monitor_mnemonic field_mnemonic invoke_mnemonic type_mnemonic constants loads stores stack math conversions comparisons control references extended
loads_named = refl

stores_named : AreNamed stores
unfolding opcode_named in_rows mnemonic left_out_mnemonic simple_line operand_letter integral_letter index_digit small_int_digit small_long_digit stack_mnemonic arithmetic_name shift_name bitwise_name conversion_mnemonic comparison_name equality_name null_mnemonic branch_mnemonic array_letter array_line return_mnemonic monitor_mnemonic field_mnemonic invoke_mnemonic type_mnemonic constants loads stores stack math conversions comparisons control references extended
stores_named = refl

stack_named : AreNamed stack
unfolding opcode_named in_rows mnemonic left_out_mnemonic simple_line operand_letter integral_letter index_digit small_int_digit small_long_digit stack_mnemonic arithmetic_name shift_name bitwise_name conversion_mnemonic comparison_name equality_name null_mnemonic branch_mnemonic array_letter array_line return_mnemonic monitor_mnemonic field_mnemonic invoke_mnemonic type_mnemonic constants loads stores stack math conversions comparisons control references extended
stack_named = refl

math_named : AreNamed math
unfolding opcode_named in_rows mnemonic left_out_mnemonic simple_line operand_letter integral_letter index_digit small_int_digit small_long_digit stack_mnemonic arithmetic_name shift_name bitwise_name conversion_mnemonic comparison_name equality_name null_mnemonic branch_mnemonic array_letter array_line return_mnemonic monitor_mnemonic field_mnemonic invoke_mnemonic type_mnemonic constants loads stores stack math conversions comparisons control references extended
math_named = refl

conversions_named : AreNamed conversions
unfolding opcode_named in_rows mnemonic left_out_mnemonic simple_line operand_letter integral_letter index_digit small_int_digit small_long_digit stack_mnemonic arithmetic_name shift_name bitwise_name conversion_mnemonic comparison_name equality_name null_mnemonic branch_mnemonic array_letter array_line return_mnemonic monitor_mnemonic field_mnemonic invoke_mnemonic type_mnemonic constants loads stores stack math conversions comparisons control references extended
conversions_named = refl

comparisons_named : AreNamed comparisons
unfolding opcode_named in_rows mnemonic left_out_mnemonic simple_line operand_letter integral_letter index_digit small_int_digit small_long_digit stack_mnemonic arithmetic_name shift_name bitwise_name conversion_mnemonic comparison_name equality_name null_mnemonic branch_mnemonic array_letter array_line return_mnemonic monitor_mnemonic field_mnemonic invoke_mnemonic type_mnemonic constants loads stores stack math conversions comparisons control references extended
comparisons_named = refl

control_named : AreNamed control
unfolding opcode_named in_rows mnemonic left_out_mnemonic simple_line operand_letter integral_letter index_digit small_int_digit small_long_digit stack_mnemonic arithmetic_name shift_name bitwise_name conversion_mnemonic comparison_name equality_name null_mnemonic branch_mnemonic array_letter array_line return_mnemonic monitor_mnemonic field_mnemonic invoke_mnemonic type_mnemonic constants loads stores stack math conversions comparisons control references extended
control_named = refl

references_named : AreNamed references
unfolding opcode_named in_rows mnemonic left_out_mnemonic simple_line operand_letter integral_letter index_digit small_int_digit small_long_digit stack_mnemonic arithmetic_name shift_name bitwise_name conversion_mnemonic comparison_name equality_name null_mnemonic branch_mnemonic array_letter array_line return_mnemonic monitor_mnemonic field_mnemonic invoke_mnemonic type_mnemonic constants loads stores stack math conversions comparisons control references extended
references_named = refl

extended_named : AreNamed extended
unfolding opcode_named in_rows mnemonic left_out_mnemonic simple_line operand_letter integral_letter index_digit small_int_digit small_long_digit stack_mnemonic arithmetic_name shift_name bitwise_name conversion_mnemonic comparison_name equality_name null_mnemonic branch_mnemonic array_letter array_line return_mnemonic monitor_mnemonic field_mnemonic invoke_mnemonic type_mnemonic constants loads stores stack math conversions comparisons control references extended
extended_named = refl

by_row : (b : Bool) (x op : Opcode) (rest : Option Opcode) → opcode_named (mnemonic x) ≡ Some x → (rest ≡ Some op → opcode_named (mnemonic op) ≡ Some op) → (if b then Some x else rest) ≡ Some op → opcode_named (mnemonic op) ≡ Some op
by_row true x op rest here others h = let same : x ≡ op = cc in subst (λ (o : Opcode). opcode_named (mnemonic o) ≡ Some o) same here
by_row false x op rest here others h = others h

row_named : (rows : List (ℕ × Opcode)) (byte : ℕ) (op : Opcode) → AreNamed rows → row_at rows byte ≡ Some op → opcode_named (mnemonic op) ≡ Some op
row_named [] byte op are h = cc
row_named (row ∷ rows) byte op are h = by_row (byte == row.0) row.1 op (row_at rows byte) (cc) (row_named rows byte op (cc)) h

by_group : (b : Bool) (op : Opcode) (x y : Option Opcode) → (x ≡ Some op → opcode_named (mnemonic op) ≡ Some op) → (y ≡ Some op → opcode_named (mnemonic op) ≡ Some op) → (if b then x else y) ≡ Some op → opcode_named (mnemonic op) ≡ Some op
by_group true op x y f g h = f h
by_group false op x y f g h = g h

pub is_named : IsNamed
unfolding opcode_at
is_named byte op h =
    by_group (nat_le byte 20) op _ _ (row_named constants byte op constants_named)
    (by_group (nat_le byte 53) op _ _ (row_named loads byte op loads_named)
    (by_group (nat_le byte 86) op _ _ (row_named stores byte op stores_named)
    (by_group (nat_le byte 95) op _ _ (row_named stack byte op stack_named)
    (by_group (nat_le byte 132) op _ _ (row_named math byte op math_named)
    (by_group (nat_le byte 147) op _ _ (row_named conversions byte op conversions_named)
    (by_group (nat_le byte 166) op _ _ (row_named comparisons byte op comparisons_named)
    (by_group (nat_le byte 177) op _ _ (row_named control byte op control_named)
    (by_group (nat_le byte 195) op _ _ (row_named references byte op references_named) (row_named extended byte op extended_named))))))))) h
