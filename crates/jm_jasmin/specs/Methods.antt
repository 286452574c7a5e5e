-- Methods, each from .method to .end method (Jasmin User Guide, "Method Definitions").
use Rattle.std.specs.Prelude.{ℕ, Bool, if◌then◌else◌, List, [], length, Option, Result, Ok, Err, slice_get, codes}
use Rattle.jm_program.specs.declared.class.Method.{Method}
use Rattle.jm_program.specs.declared.code.Code.{Code}
use Rattle.jm_jasmin_lex.specs.Token.{TokenParts}
use Rattle.jm_jasmin_ops.specs.declared.fault.AsmFault.{AsmFault}
use Rattle.jm_jasmin_ops.specs.declared.fault.AsmFault.TheVariants as fault
use Rattle.jm_jasmin.specs.Lines.{◌>>=◌, Reading, is_word_at, begins, line_number, by_line, required, taken_on, one_more}
use Rattle.jm_jasmin.specs.Words.{with_length}
use Rattle.jm_jasmin.specs.MethodHeader.{method_line}
use Rattle.jm_jasmin.specs.Items.{items_of}
use Rattle.jm_jasmin.specs.Body.{code_of}

-- .end method, and its line
unfoldable pub end_line : List TokenParts → Result ℕ AsmFault
end_line line = do
  _ ← with_length line 2
  if is_word_at (codes "method") (slice_get line 1) then Ok (line_number line) else Err (fault.Syntax (line_number line))

abbrev pub with_code : Method → Option Code → Method
with_code m code = record { flags = m.flags; name = m.name; descriptor = m.descriptor; code = code }

-- a method that begins at a line
unfoldable pub method_body : ℕ → Method → Reading Method
method_body line m ts = do
  items ← items_of m ts
  end ← required (codes ".end") end_line items.1
  code ← code_of m line end.0 items.0
  Ok (with_code m code, end.1)

unfoldable pub method : Bool → Reading Method
method in_interface ts = do
  m ← by_line (method_line in_interface) ts
  method_body (line_number ts) m.0 m.1

unfoldable pub methods : Bool → Reading (List Method)
methods in_interface ts = taken_on (begins (codes ".method")) (one_more (method in_interface)) (length ts) [] ts
