-- The UTF-16 code units of a text.
use Rattle.std.specs.Prelude.{ℕ, List}
use Rattle.std.specs.List.{flat_map}
use Rattle.std.specs.Str.{chars}
use Rattle.std.specs.Char.Escape.{encode_utf16}

-- one or two units for each character (Unicode, UTF-16)
abbrev pub utf16_of : List ℕ → List ℕ
utf16_of text = flat_map encode_utf16 (chars text)
