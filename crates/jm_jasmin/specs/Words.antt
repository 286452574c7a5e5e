-- The operands of a directive's line (Jasmin User Guide, "Jasmin Assembler Directives").
use Rattle.std.specs.Prelude.{ℕ, ℤ, pos, ◌==◌, nat_le, if◌then◌else◌, List, [], ◌∷◌, length, take, drop, Option, Some, None, Result, Ok, Err, slice_get, bit_or, codes}
use Rattle.jm_program.specs.Names.{same_text}
use Rattle.jm_class_format.specs.declared.read_fault.LeftOutPart.TheVariants as part
use Rattle.jm_jasmin_lex.specs.Token.{TokenParts}
use Rattle.jm_jasmin_lex.specs.Integers.{integer_of}
use Rattle.jm_jasmin_ops.specs.declared.fault.AsmFault.{AsmFault}
use Rattle.jm_jasmin_ops.specs.declared.fault.AsmFault.TheVariants as fault
use Rattle.jm_jasmin_ops.specs.declared.fault.AsmLeftOut.TheVariants as left_out
use Rattle.jm_jasmin.specs.Lines.{◌>>=◌, is_word_kind, line_number}

-- the text of a token that has to be a word
abbrev pub word_text : TokenParts → Result (List ℕ) AsmFault
word_text t = if is_word_kind t.kind then Ok t.text else Err (fault.Syntax t.line)

abbrev pub word_of : ℕ → Option TokenParts → Result (List ℕ) AsmFault
word_of line None = Err (fault.Syntax line)
word_of line (Some t) = word_text t

-- the word at a place of a line, the directive at 0
unfoldable pub operand : List TokenParts → ℕ → Result (List ℕ) AsmFault
operand line index = word_of (line_number line) (slice_get line index)

-- so many words with the directive
unfoldable pub with_length : List TokenParts → ℕ → Result (Unit {0}) AsmFault
with_length line count = if length line == count then Ok tt else Err (fault.Syntax (line_number line))

unfoldable pub with_length_from : List TokenParts → ℕ → Result (Unit {0}) AsmFault
with_length_from line count = if nat_le count (length line) then Ok tt else Err (fault.Syntax (line_number line))

-- the one operand of a line
unfoldable pub only_operand : List TokenParts → Result (List ℕ) AsmFault
only_operand line = with_length line 2 >>= λ _. operand line 1

-- ---- numbers

abbrev pub unsigned_short : ℕ → Option ℤ → Result ℕ AsmFault
unsigned_short line (Some (pos n)) = if nat_le n 65535 then Ok n else Err (fault.Syntax line)
unsigned_short line _ = Err (fault.Syntax line)

-- an integer from 0 to 65,535
unfoldable pub short_operand : List TokenParts → ℕ → Result ℕ AsmFault
short_operand line index = operand line index >>= λ text. unsigned_short (line_number line) (integer_of text)

-- ---- access flags (Jasmin User Guide, "Jasmin Assembler Directives", .class, .field, .method; JVMS 4.1, 4.5, 4.6)

unfoldable pub flag_named : List ℕ → Option ℕ
flag_named word =
    if same_text word (codes "public") then Some 0x0001
    else if same_text word (codes "private") then Some 0x0002
    else if same_text word (codes "protected") then Some 0x0004
    else if same_text word (codes "static") then Some 0x0008
    else if same_text word (codes "final") then Some 0x0010
    else if same_text word (codes "synchronized") then Some 0x0020
    else if same_text word (codes "volatile") then Some 0x0040
    else if same_text word (codes "transient") then Some 0x0080
    else if same_text word (codes "abstract") then Some 0x0400
    else None

-- native is left out
unfoldable pub not_a_flag : ℕ → List ℕ → AsmFault
not_a_flag line word = if same_text word (codes "native") then fault.LeftOut (left_out.Part part.Native) line else fault.Syntax line

abbrev pub flag_or : AsmFault → Option ℕ → Result ℕ AsmFault
flag_or e None = Err e
flag_or e (Some mask) = Ok mask

unfoldable pub flag_of : TokenParts → Result ℕ AsmFault
flag_of t = word_text t >>= λ word. flag_or (not_a_flag t.line word) (flag_named word)

-- flags beside some bits
unfoldable pub flags_from : ℕ → List TokenParts → Result ℕ AsmFault
flags_from bits [] = Ok bits
flags_from bits (t ∷ ts) = flag_of t >>= λ mask. flags_from (bit_or bits mask) ts

-- the words between the directive and the one at an index
unfoldable pub flags_before : ℕ → List TokenParts → ℕ → Result ℕ AsmFault
flags_before bits line index = flags_from bits (drop 1 (take index line))
