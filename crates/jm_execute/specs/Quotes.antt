-- A line of an assembler text, as it is quoted.
use Rattle.std.specs.Prelude.{ℕ, zero, suc, ◌+◌, ◌-◌, List, [], Option, Some, None, take, drop, position, ◌==◌, if◌then◌else◌}
use Rattle.std.specs.Str.{is_utf8, trim}
use Rattle.jm_execute.specs.FileNames.{file_name_text}

-- the bytes up to a place, or all of them
abbrev pub front : Option ℕ → List ℕ → List ℕ
front None bytes = bytes
front (Some at) bytes = take at bytes

-- the bytes behind a place
abbrev pub behind : Option ℕ → List ℕ → List ℕ
behind None bytes = []
behind (Some at) bytes = drop (at + 1) bytes

-- the bytes in front of the first of this value
abbrev pub up_to : ℕ → List ℕ → List ℕ
up_to value bytes = front (position (λ byte. byte == value) bytes) bytes

-- the bytes behind the first line
abbrev pub behind_line : List ℕ → List ℕ
behind_line bytes = behind (position (λ byte. byte == 10) bytes) bytes

-- the bytes behind so many lines: a line feed ends a line
abbrev pub behind_lines : ℕ → List ℕ → List ℕ
behind_lines zero bytes = bytes
behind_lines (suc n) bytes = behind_line (behind_lines n bytes)

-- nothing of a line that is not UTF-8
abbrev pub text_in : List ℕ → List ℕ
text_in line = if is_utf8 line then line else []

-- without the blanks at its ends, and each control character as \uXXXX
abbrev pub line_shown : List ℕ → List ℕ
line_shown line = file_name_text (trim (text_in line))

-- the line of this number, counted from 1
abbrev pub quote : ℕ → List ℕ → List ℕ
quote number bytes = line_shown (up_to 10 (behind_lines (number - 1) bytes))
