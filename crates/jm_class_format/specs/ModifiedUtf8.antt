-- Modified UTF-8: which bytes spell which UTF-16 code units (JVMS 4.4.7).
use Rattle.std.specs.Prelude.{ℕ, ◌+◌, ◌-◌, ◌*◌, ◌/◌, ◌%◌, ◌==◌, nat_le, ◌&&◌, ◌||◌, if◌then◌else◌, List, [], ◌∷◌, length, Option, Some, None}
use Rattle.std.specs.List.{flat_map}
use Rattle.std.proofs.Common.{arith, ap, length-append}
use Rattle.jm_bytes.specs.Spelling.{IsFilled}
use Rattle.jm_bytes.specs.Format.{Format, Whole, ◌>>=◌, done, given, u1, each_to_end}
use Rattle.jm_class_format.specs.declared.constant_pool.Lead.{Lead}
use Rattle.jm_class_format.specs.declared.constant_pool.Lead.TheVariants.{One, Two, Three}
use Rattle.jm_class_format.specs.declared.fault.PoolFault.{PoolFault}
use Rattle.jm_class_format.specs.declared.fault.PoolFault.TheVariants.{BadUtf8}

-- The first byte of a code unit: 0xxxxxxx, but for 0 itself, 110xxxxx or 1110xxxx. No other byte is one, so four bytes spell nothing.
unfoldable pub lead_at : ℕ → Option Lead
lead_at byte =
    if nat_le 1 byte && nat_le byte 0x7F then Some (One byte)
    else if nat_le 0xC0 byte && nat_le byte 0xDF then Some (Two (byte - 0xC0))
    else if nat_le 0xE0 byte && nat_le byte 0xEF then Some (Three (byte - 0xE0))
    else None

-- a byte 10xxxxxx that follows it
unfoldable pub six_bits_of : ℕ → Option ℕ
six_bits_of byte = if nat_le 0x80 byte && nat_le byte 0xBF then Some (byte - 0x80) else None

-- two bytes are 0 or more than one byte can say
unfoldable pub unit_of_two : ℕ → ℕ → Option ℕ
unit_of_two high low =
    let unit = high * 64 + low in
    if unit == 0 || nat_le 0x80 unit then Some unit else None

-- three bytes are more than two bytes can say
unfoldable pub unit_of_three : ℕ → ℕ → ℕ → Option ℕ
unit_of_three high middle low =
    let unit = high * 4096 + middle * 64 + low in
    if nat_le 0x800 unit then Some unit else None

unfoldable pub six_bits : Format PoolFault ℕ
six_bits = do
  byte ← u1 BadUtf8
  given BadUtf8 (six_bits_of byte)

-- the code unit that begins so
unfoldable pub unit_after : Lead → Format PoolFault ℕ
unit_after (One unit) = done unit
unit_after (Two high) = do
  low ← six_bits
  given BadUtf8 (unit_of_two high low)
unit_after (Three high) = do
  middle ← six_bits
  low ← six_bits
  given BadUtf8 (unit_of_three high middle low)

-- a code unit, wherever it stands
unfoldable pub code_unit : ℕ → Format PoolFault ℕ
code_unit at = do
  byte ← u1 BadUtf8
  lead ← given BadUtf8 (lead_at byte)
  unit_after lead

pub code_unit_filled : IsFilled (λ at. (code_unit at).Spells)
unfolding code_unit
code_unit_filled = record { filled = λ at bytes unit h. omega (arith, ap length h.parts, length-append h.front h.back, h.first.0) }

-- a text: code units, one after the other
abbrev pub text : Whole PoolFault (List ℕ)
text = each_to_end code_unit code_unit_filled 0

-- ---- the one way to write it

-- the bytes of a code unit, the shortest form, but two bytes for 0
unfoldable pub unit_bytes : ℕ → List ℕ
unit_bytes unit =
    if nat_le 1 unit && nat_le unit 0x7F then unit ∷ []
    else if nat_le unit 0x7FF then (0xC0 + unit / 64) ∷ (0x80 + unit % 64) ∷ []
    else (0xE0 + unit / 4096) ∷ (0x80 + unit / 64 % 64) ∷ (0x80 + unit % 64) ∷ []

abbrev pub text_bytes : List ℕ → List ℕ
text_bytes units = flat_map unit_bytes units
