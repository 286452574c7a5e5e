-- The class that an assembler text denotes (Jasmin User Guide), or the first fault in the order of its lines.
use Rattle.std.specs.Prelude.{ℕ, ◌==◌, Bool, false, if◌then◌else◌, List, [], ◌∷◌, ◌++◌, length, take, ◌-◌, Option, Some, None, Result, Ok, Err, slice_get}
use Rattle.std.specs.List.{position}
use Rattle.jm_program.specs.Flags.{is_interface}
use Rattle.jm_program.specs.declared.class.ClassParts.{ClassParts}
use Rattle.jm_program.specs.declared.class.Field.{Field}
use Rattle.jm_program.specs.declared.class.Method.{Method}
use Rattle.jm_jasmin_lex.specs.Token.{TokenParts}
use Rattle.jm_jasmin_lex.specs.Tokens.{lexed_of}
use Rattle.jm_jasmin_lex.specs.declared.token.TokenKind.TheVariants as kind
use Rattle.jm_jasmin_ops.specs.Faults.{line_of}
use Rattle.jm_jasmin_ops.specs.declared.fault.AsmFault.{AsmFault}
use Rattle.jm_jasmin_ops.specs.declared.fault.AsmFault.TheVariants as fault
use Rattle.jm_jasmin.specs.declared.header.Header.{Header}
use Rattle.jm_jasmin.specs.Lines.{◌>>=◌, line_number, misplaced}
use Rattle.jm_jasmin.specs.Header.{header}
use Rattle.jm_jasmin.specs.Fields.{fields}
use Rattle.jm_jasmin.specs.Methods.{methods}

-- ---- the lines of a class, and the end of its text

-- Behind the tokens stands one that no line begins with, in line 0, so that each fault there is one of a text that ends too early.
abbrev pub end_of_text : TokenParts
end_of_text = record { kind = kind.Text; text = []; start = 0; line = 0 }

abbrev pub parts_of : Header → List Field → List Method → ClassParts
parts_of h fs ms = record {
  version = h.version;
  flags = h.flags;
  name = h.name;
  superclass = Some h.superclass;
  interfaces = h.interfaces;
  fields = fs;
  methods = ms;
  source_file = h.source_file;
}

-- nothing follows the methods
unfoldable pub text_ends : List TokenParts → Result (Unit {0}) AsmFault
text_ends ts = if line_number ts == 0 then Ok tt else Err (misplaced ts)

-- the lines up to the end of the text
unfoldable pub class_of : List TokenParts → Result ClassParts AsmFault
class_of ts = do
  h ← header ts
  fs ← fields h.1
  ms ← methods (is_interface h.0.flags) fs.1
  _ ← text_ends ms.1
  Ok (parts_of h.0 fs.0 ms.0)

-- ---- faults at the end of the text

abbrev pub is_zero : Option ℕ → Bool
is_zero None = false
is_zero (Some n) = n == 0

-- a fault at the end of the text as it is answered
unfoldable pub fault_at_end : AsmFault → AsmFault → AsmFault
fault_at_end end e = if is_zero (line_of e) then end else e

unfoldable pub with_end : {A : Type 0} → AsmFault → Result A AsmFault → Result A AsmFault
with_end end (Ok x) = Ok x
with_end end (Err e) = Err (fault_at_end end e)

-- ---- the text

-- the line of the last token, or 1
abbrev pub last_line_at : Option TokenParts → ℕ
last_line_at None = 1
last_line_at (Some t) = t.line

unfoldable pub last_line : List TokenParts → ℕ
last_line ts = last_line_at (slice_get ts (length ts - 1))

-- the tokens before a line
abbrev pub tokens_up_to : Option ℕ → List TokenParts → List TokenParts
tokens_up_to None ts = ts
tokens_up_to (Some at) ts = take at ts

unfoldable pub before_line : ℕ → List TokenParts → List TokenParts
before_line line ts = tokens_up_to (position (λ t. t.line == line) ts) ts

abbrev pub read_whole : List TokenParts → Result ClassParts AsmFault
read_whole ts = with_end (fault.Syntax (last_line ts)) (class_of (ts ++ end_of_text ∷ []))

-- where a line is bad, a fault of a line before it comes first
abbrev pub read_up_to : ℕ → List TokenParts → Result ClassParts AsmFault
read_up_to line ts = with_end (fault.BadToken line) (class_of (before_line line ts ++ end_of_text ∷ [])) >>= λ _. Err (fault.BadToken line)

abbrev pub read_lexed : List TokenParts → Option ℕ → Result ClassParts AsmFault
read_lexed ts None = read_whole ts
read_lexed ts (Some line) = read_up_to line ts

-- what the bytes of a text denote
unfoldable pub denoted : List ℕ → Result ClassParts AsmFault
denoted text = read_lexed (lexed_of text).tokens (lexed_of text).bad_line
