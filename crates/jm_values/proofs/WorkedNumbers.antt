-- Worked rows of arithmetic, conversions and lcmp (JVMS 2.11.3, 2.11.4). Operands are listed from
-- the top, so that the second comes first; a run beside Java's own words for it.
use Rattle.std.proofs.Common.{◌≡◌, List, [], ◌∷◌, refl}
use Rattle.std.specs.Prelude.{map, codes}
use Rattle.jm_values.specs.Outcome.{Outcome, throws, faults}
use Rattle.jm_values.specs.PlainRows.{row_plain}
use Rattle.jm_values.specs.declared.value.Value.{Value}
use Rattle.jm_values.specs.declared.value.Value.TheVariants.{Null}
use Rattle.jm_values.specs.declared.fault.TagFault.TheVariants.{WrongTag, Underflow, Overflow}
use Rattle.jm_program.specs.declared.instruction.operation.Integral.{Integral}
use Rattle.jm_program.specs.declared.instruction.operation.Arithmetic.TheVariants.{Add, Sub, Mul, Div, Rem}
use Rattle.jm_program.specs.declared.instruction.operation.Shift.TheVariants.{Left, Right, UnsignedRight}
use Rattle.jm_program.specs.declared.instruction.operation.Bitwise.TheVariants.{And, Or, Xor}
use Rattle.jm_program.specs.declared.instruction.operation.Conversion.TheVariants.{IntToLong, LongToInt, IntToByte, IntToChar, IntToShort}
use Rattle.jm_program.specs.declared.instruction.plain.Simple.{Simple}
use Rattle.jm_program.specs.declared.instruction.plain.Plain.{Plain}
use Rattle.jm_values.proofs.WorkedStart.{int, minus_int, long, minus_long, start, on}

abbrev run : Simple → List Value → Outcome
run op s = row_plain (Plain.Simple op) (start s)

abbrev iadd : Simple
iadd = Simple.Arithmetic Add Integral.Int

-- the ends of int and long
abbrev int_max : Value
int_max = int 2147483647

abbrev int_min : Value
int_min = minus_int 2147483648

abbrev long_max : Value
long_max = long 9223372036854775807

abbrev long_min : Value
long_min = minus_long 9223372036854775808

abbrev thrown : Outcome
thrown = throws (codes "java/lang/ArithmeticException")

-- 2 + 3
iadd_adds : run iadd (int 3 ∷ int 2 ∷ Null ∷ []) ≡ on (int 5 ∷ Null ∷ [])
iadd_adds = refl

-- Integer.MAX_VALUE + 1
iadd_wraps : run iadd (int 1 ∷ int_max ∷ []) ≡ on (int_min ∷ [])
iadd_wraps = refl

ladd_wraps : run (Simple.Arithmetic Add Integral.Long) (long 1 ∷ long_max ∷ []) ≡ on (long_min ∷ [])
ladd_wraps = refl

-- 2 - 3
isub_takes_the_top_away : run (Simple.Arithmetic Sub Integral.Int) (int 3 ∷ int 2 ∷ []) ≡ on (minus_int 1 ∷ [])
isub_takes_the_top_away = refl

-- Long.MIN_VALUE - 1
lsub_wraps : run (Simple.Arithmetic Sub Integral.Long) (long 1 ∷ long_min ∷ []) ≡ on (long_max ∷ [])
lsub_wraps = refl

-- 46341 * 46341
imul_keeps_the_low_32_bits : run (Simple.Arithmetic Mul Integral.Int) (int 46341 ∷ int 46341 ∷ []) ≡ on (minus_int 2147479015 ∷ [])
imul_keeps_the_low_32_bits = refl

-- 3037000500L * 3037000500L
lmul_keeps_the_low_64_bits : run (Simple.Arithmetic Mul Integral.Long) (long 3037000500 ∷ long 3037000500 ∷ []) ≡ on (minus_long 9223372036709301616 ∷ [])
lmul_keeps_the_low_64_bits = refl

-- -7 / 2 and 7 / -2
idiv_rounds_toward_zero : run (Simple.Arithmetic Div Integral.Int) (int 2 ∷ minus_int 7 ∷ []) ∷ run (Simple.Arithmetic Div Integral.Int) (minus_int 2 ∷ int 7 ∷ []) ∷ [] ≡ on (minus_int 3 ∷ []) ∷ on (minus_int 3 ∷ []) ∷ []
idiv_rounds_toward_zero = refl

-- -7 % 2 and 7 % -2
irem_has_the_sign_of_the_dividend : run (Simple.Arithmetic Rem Integral.Int) (int 2 ∷ minus_int 7 ∷ []) ∷ run (Simple.Arithmetic Rem Integral.Int) (minus_int 2 ∷ int 7 ∷ []) ∷ [] ≡ on (minus_int 1 ∷ []) ∷ on (int 1 ∷ []) ∷ []
irem_has_the_sign_of_the_dividend = refl

-- -5L / 3 and -5L % 3
ldiv_and_lrem_go_toward_zero : run (Simple.Arithmetic Div Integral.Long) (long 3 ∷ minus_long 5 ∷ []) ∷ run (Simple.Arithmetic Rem Integral.Long) (long 3 ∷ minus_long 5 ∷ []) ∷ [] ≡ on (minus_long 1 ∷ []) ∷ on (minus_long 2 ∷ []) ∷ []
ldiv_and_lrem_go_toward_zero = refl

the_minimum_by_minus_one_is_the_minimum : run (Simple.Arithmetic Div Integral.Int) (minus_int 1 ∷ int_min ∷ []) ∷ run (Simple.Arithmetic Div Integral.Long) (minus_long 1 ∷ long_min ∷ []) ∷ [] ≡ on (int_min ∷ []) ∷ on (long_min ∷ []) ∷ []
the_minimum_by_minus_one_is_the_minimum = refl

the_minimum_by_minus_one_leaves_nothing : run (Simple.Arithmetic Rem Integral.Int) (minus_int 1 ∷ int_min ∷ []) ∷ run (Simple.Arithmetic Rem Integral.Long) (minus_long 1 ∷ long_min ∷ []) ∷ [] ≡ on (int 0 ∷ []) ∷ on (long 0 ∷ []) ∷ []
the_minimum_by_minus_one_leaves_nothing = refl

a_zero_divisor_throws : run (Simple.Arithmetic Div Integral.Int) (int 0 ∷ int 1 ∷ []) ∷ run (Simple.Arithmetic Rem Integral.Int) (int 0 ∷ int 1 ∷ []) ∷ run (Simple.Arithmetic Div Integral.Long) (long 0 ∷ long 1 ∷ []) ∷ run (Simple.Arithmetic Rem Integral.Long) (long 0 ∷ long 1 ∷ []) ∷ [] ≡ thrown ∷ thrown ∷ thrown ∷ thrown ∷ []
a_zero_divisor_throws = refl

both_operands_come_before_the_divisor : run (Simple.Arithmetic Div Integral.Int) (int 0 ∷ long 1 ∷ []) ∷ run (Simple.Arithmetic Div Integral.Int) (int 0 ∷ []) ∷ [] ≡ faults WrongTag ∷ faults Underflow ∷ []
both_operands_come_before_the_divisor = refl

-- -Integer.MIN_VALUE and -Long.MIN_VALUE
negation_wraps : run (Simple.Negate Integral.Int) (int_min ∷ []) ∷ run (Simple.Negate Integral.Long) (long_min ∷ []) ∷ run (Simple.Negate Integral.Int) (int 5 ∷ []) ∷ run (Simple.Negate Integral.Long) (minus_long 5 ∷ []) ∷ [] ≡ on (int_min ∷ []) ∷ on (long_min ∷ []) ∷ on (minus_int 5 ∷ []) ∷ on (long 5 ∷ []) ∷ []
negation_wraps = refl

iadd_on_a_lone_long_is_a_wrong_tag : run iadd (long 1 ∷ []) ≡ faults WrongTag
iadd_on_a_lone_long_is_a_wrong_tag = refl

iadd_on_a_lone_int_underflows : run iadd (int 1 ∷ []) ≡ faults Underflow
iadd_on_a_lone_int_underflows = refl

iadd_on_nothing_underflows : run iadd [] ≡ faults Underflow
iadd_on_nothing_underflows = refl

iadd_of_an_int_and_a_long_is_a_wrong_tag : run iadd (int 1 ∷ long 0 ∷ int 0 ∷ []) ≡ faults WrongTag
iadd_of_an_int_and_a_long_is_a_wrong_tag = refl

ladd_of_ints_is_a_wrong_tag : run (Simple.Arithmetic Add Integral.Long) (int 1 ∷ int 2 ∷ []) ≡ faults WrongTag
ladd_of_ints_is_a_wrong_tag = refl

-- 1 << 33, 1L << 65 and 1L << 33
shifts_count_by_5_and_6_bits : run (Simple.Shift Left Integral.Int) (int 33 ∷ int 1 ∷ []) ∷ run (Simple.Shift Left Integral.Long) (int 65 ∷ long 1 ∷ []) ∷ run (Simple.Shift Left Integral.Long) (int 33 ∷ long 1 ∷ []) ∷ [] ≡ on (int 2 ∷ []) ∷ on (long 2 ∷ []) ∷ on (long 8589934592 ∷ []) ∷ []
shifts_count_by_5_and_6_bits = refl

-- 1 << -1 and 1L << -1
a_negative_count_has_its_low_bits : run (Simple.Shift Left Integral.Int) (minus_int 1 ∷ int 1 ∷ []) ∷ run (Simple.Shift Left Integral.Long) (minus_int 1 ∷ long 1 ∷ []) ∷ [] ≡ on (int_min ∷ []) ∷ on (long_min ∷ []) ∷ []
a_negative_count_has_its_low_bits = refl

-- -8 >> 33 and -16L >> 66
right_shifts_keep_the_sign : run (Simple.Shift Right Integral.Int) (int 33 ∷ minus_int 8 ∷ []) ∷ run (Simple.Shift Right Integral.Long) (int 66 ∷ minus_long 16 ∷ []) ∷ [] ≡ on (minus_int 4 ∷ []) ∷ on (minus_long 4 ∷ []) ∷ []
right_shifts_keep_the_sign = refl

-- -1 >>> 28, -1 >>> 32, -16 >>> 2 and -16L >>> 2
unsigned_right_shifts_bring_zeros : run (Simple.Shift UnsignedRight Integral.Int) (int 28 ∷ minus_int 1 ∷ []) ∷ run (Simple.Shift UnsignedRight Integral.Int) (int 32 ∷ minus_int 1 ∷ []) ∷ run (Simple.Shift UnsignedRight Integral.Int) (int 2 ∷ minus_int 16 ∷ []) ∷ run (Simple.Shift UnsignedRight Integral.Long) (int 2 ∷ minus_long 16 ∷ []) ∷ [] ≡ on (int 15 ∷ []) ∷ on (minus_int 1 ∷ []) ∷ on (int 1073741820 ∷ []) ∷ on (long 4611686018427387900 ∷ []) ∷ []
unsigned_right_shifts_bring_zeros = refl

the_count_of_a_shift_is_an_int : run (Simple.Shift Left Integral.Long) (long 1 ∷ long 1 ∷ []) ∷ run (Simple.Shift Left Integral.Long) (int 1 ∷ int 1 ∷ []) ∷ run (Simple.Shift Left Integral.Int) (int 1 ∷ []) ∷ [] ≡ faults WrongTag ∷ faults WrongTag ∷ faults Underflow ∷ []
the_count_of_a_shift_is_an_int = refl

-- -1 & 255, -256 | 1 and -1 ^ 1
iand_ior_ixor : run (Simple.Bitwise And Integral.Int) (int 255 ∷ minus_int 1 ∷ []) ∷ run (Simple.Bitwise Or Integral.Int) (int 1 ∷ minus_int 256 ∷ []) ∷ run (Simple.Bitwise Xor Integral.Int) (int 1 ∷ minus_int 1 ∷ []) ∷ [] ≡ on (int 255 ∷ []) ∷ on (minus_int 255 ∷ []) ∷ on (minus_int 2 ∷ []) ∷ []
iand_ior_ixor = refl

-- 12L & 10L, -256L | 1L and 12L ^ 10L
land_lor_lxor : run (Simple.Bitwise And Integral.Long) (long 10 ∷ long 12 ∷ []) ∷ run (Simple.Bitwise Or Integral.Long) (long 1 ∷ minus_long 256 ∷ []) ∷ run (Simple.Bitwise Xor Integral.Long) (long 10 ∷ long 12 ∷ []) ∷ [] ≡ on (long 8 ∷ []) ∷ on (minus_long 255 ∷ []) ∷ on (long 6 ∷ []) ∷ []
land_lor_lxor = refl

i2l_keeps_the_sign : run (Simple.Convert IntToLong) (minus_int 5 ∷ []) ≡ on (minus_long 5 ∷ [])
i2l_keeps_the_sign = refl

i2l_can_overflow : run (Simple.Convert IntToLong) (int 5 ∷ int 1 ∷ long 2 ∷ long 3 ∷ long 4 ∷ []) ≡ faults Overflow
i2l_can_overflow = refl

-- (int) 4294967297L, (int) 2147483648L and (int) -4294967297L
l2i_keeps_the_low_32_bits : map (λ v. run (Simple.Convert LongToInt) (v ∷ [])) (long 4294967297 ∷ long 2147483648 ∷ minus_long 4294967297 ∷ []) ≡ on (int 1 ∷ []) ∷ on (int_min ∷ []) ∷ on (minus_int 1 ∷ []) ∷ []
l2i_keeps_the_low_32_bits = refl

-- (byte) 200, (byte) 128 and (byte) -129
i2b_keeps_the_sign_of_8_bits : map (λ v. run (Simple.Convert IntToByte) (v ∷ [])) (int 200 ∷ int 128 ∷ minus_int 129 ∷ []) ≡ on (minus_int 56 ∷ []) ∷ on (minus_int 128 ∷ []) ∷ on (int 127 ∷ []) ∷ []
i2b_keeps_the_sign_of_8_bits = refl

-- (char) -1 and (char) 65536
i2c_has_no_sign : map (λ v. run (Simple.Convert IntToChar) (v ∷ [])) (minus_int 1 ∷ int 65536 ∷ []) ≡ on (int 65535 ∷ []) ∷ on (int 0 ∷ []) ∷ []
i2c_has_no_sign = refl

-- (short) 40000 and (short) -32769
i2s_keeps_the_sign_of_16_bits : map (λ v. run (Simple.Convert IntToShort) (v ∷ [])) (int 40000 ∷ minus_int 32769 ∷ []) ≡ on (minus_int 25536 ∷ []) ∷ on (int 32767 ∷ []) ∷ []
i2s_keeps_the_sign_of_16_bits = refl

a_conversion_wants_its_type : run (Simple.Convert IntToLong) (long 1 ∷ []) ∷ run (Simple.Convert LongToInt) (int 1 ∷ []) ∷ run (Simple.Convert IntToByte) [] ∷ [] ≡ faults WrongTag ∷ faults WrongTag ∷ faults Underflow ∷ []
a_conversion_wants_its_type = refl

lcmp_orders_longs : map (λ v. run Simple.CompareLongs (v ∷ long 0 ∷ [])) (minus_long 1 ∷ long 0 ∷ long 1 ∷ []) ≡ on (int 1 ∷ []) ∷ on (int 0 ∷ []) ∷ on (minus_int 1 ∷ []) ∷ []
lcmp_orders_longs = refl

lcmp_goes_by_all_64_bits : run Simple.CompareLongs (long_max ∷ long_min ∷ []) ∷ run Simple.CompareLongs (minus_long 2 ∷ minus_long 1 ∷ []) ∷ [] ≡ on (minus_int 1 ∷ []) ∷ on (int 1 ∷ []) ∷ []
lcmp_goes_by_all_64_bits = refl

lcmp_of_ints_is_a_wrong_tag : run Simple.CompareLongs (int 1 ∷ int 2 ∷ []) ≡ faults WrongTag
lcmp_of_ints_is_a_wrong_tag = refl
