-- The name of a file in a line: no sign of it ends the line, or moves where it is shown.
use Rattle.std.specs.Prelude.{ℕ, List, encode_utf8, if◌then◌else◌}
use Rattle.std.specs.Char.{is_control}
use Rattle.std.specs.List.{flat_map}
use Rattle.std.specs.Str.{chars}
use Rattle.jm_program.specs.JasminUnits.{escape_text}

-- a control character (U+0000 to U+001F, U+007F to U+009F) as \uXXXX, and any other as it is
abbrev pub sign_text : ℕ → List ℕ
sign_text c = if is_control c then escape_text c else encode_utf8 c

unfoldable pub file_name_text : List ℕ → List ℕ
file_name_text name = flat_map sign_text (chars name)
