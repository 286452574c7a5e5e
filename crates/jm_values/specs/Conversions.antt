-- Conversions between integers (JVMS 2.11.4).
use Rattle.std.specs.Prelude.{◌%◌, ◌^◌, ℤ, pos}
use Rattle.std.specs.Int.{w8, w16, w32, w64, cast_signed, cast_unsigned}
use Rattle.jm_values.specs.Activation.{Activation}
use Rattle.jm_values.specs.Outcome.{Outcome}
use Rattle.jm_values.specs.Steps.{push, with_number}
use Rattle.jm_values.specs.Arithmetic.{number}
use Rattle.jm_program.specs.declared.instruction.operation.Integral.{Integral}
use Rattle.jm_program.specs.declared.instruction.operation.Conversion.{Conversion}
use Rattle.jm_program.specs.declared.instruction.operation.Conversion.TheVariants.{IntToLong, LongToInt, IntToByte, IntToChar, IntToShort}

-- the type that is converted
abbrev pub source : Conversion → Integral
source LongToInt = Integral.Long
source _ = Integral.Int

-- the type of the result
abbrev pub target : Conversion → Integral
target IntToLong = Integral.Long
target _ = Integral.Int

-- the sign stays; the low 32 bits; the sign from 8 bits; zeros from 16 bits; the sign from 16 bits
-- (JVMS 6.5 i2l, l2i, i2b, i2c, i2s)
abbrev pub conversion_of : Conversion → ℤ → ℤ
conversion_of IntToLong n = n
conversion_of LongToInt n = cast_signed w32 (cast_unsigned w64 n % 2 ^ 32)
conversion_of IntToByte n = cast_signed w8 (cast_unsigned w32 n % 2 ^ 8)
conversion_of IntToChar n = pos (cast_unsigned w32 n % 2 ^ 16)
conversion_of IntToShort n = cast_signed w16 (cast_unsigned w32 n % 2 ^ 16)

-- i2l, l2i, i2b, i2c, i2s
abbrev pub row_convert : Conversion → Activation → Outcome
row_convert op a = with_number (source op) a.stack (λ n s. push a (number (target op) (conversion_of op n)) s)
