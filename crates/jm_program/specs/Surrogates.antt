-- The two halves of a supplementary character among code units (JVMS 4.4.7; Unicode, UTF-16).
use Rattle.std.specs.Prelude.{ℕ, ◌+◌, ◌-◌, ◌*◌, Bool, ◌&&◌, ◌||◌, nat_le, nat_lt}

abbrev pub is_high : ℕ → Bool
is_high u = nat_le 0xD800 u && nat_lt u 0xDC00

abbrev pub is_low : ℕ → Bool
is_low u = nat_le 0xDC00 u && nat_lt u 0xE000

abbrev pub is_surrogate : ℕ → Bool
is_surrogate u = is_high u || is_low u

-- the character of a first half and a second one
abbrev pub character_of : ℕ → ℕ → ℕ
character_of high low = 0x1_0000 + (high - 0xD800) * 0x400 + (low - 0xDC00)
