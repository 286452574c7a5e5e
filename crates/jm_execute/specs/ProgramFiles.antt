-- What a program's file is, by its name, and the class that a text denotes.
use Rattle.std.specs.Prelude.{ℕ, ◌+◌, ◌==◌, nat_eq, List, take, Bool, codes, Result, Err, if◌then◌else◌}
use Rattle.std.specs.List.{count_by, ends_with}
use Rattle.std.specs.Str.{is_utf8}
use Rattle.std.specs.Str.Lossy.{utf8_valid_len}
use Rattle.jm_program.specs.declared.class.ClassParts.{ClassParts}
use Rattle.jm_class_format.specs.declared.read_fault.ReadFault.{ReadFault}
use Rattle.jm_jasmin.specs.Text.{denoted}
use Rattle.jm_jasmin_ops.specs.declared.fault.AsmFault.{AsmFault}
use Rattle.jm_jasmin_ops.specs.declared.fault.AsmFault.TheVariants.{BadToken}

-- the line, counted from 1, in which the byte at an offset stands: a line feed ends a line
abbrev pub line_at : List ℕ → ℕ → ℕ
line_at bytes at = 1 + count_by (λ b. b == 10) (take at bytes)

-- The class that the bytes of an assembler text denote (Jasmin User Guide). A text is UTF-8: where it is not, the line of the first byte
-- that begins no character is bad.
unfoldable pub text_class : List ℕ → Result ClassParts AsmFault
text_class bytes = if is_utf8 bytes then denoted bytes else Err (BadToken (line_at bytes (utf8_valid_len bytes)))

-- a file whose name ends in .j holds an assembler text, and any other a class file
abbrev pub is_text_name : List ℕ → Bool
is_text_name name = ends_with nat_eq name (codes ".j")

-- why a file holds no class
pub data FileFault : Type 0 where
  in_text : AsmFault → FileFault
  in_class_file : ReadFault → FileFault
