-- The rows of a film's data that stand still: methods, their instructions, and the sources of classes.
use Rattle.std.specs.Prelude.{ℕ, List, [], ◌∷◌, ◌++◌, Option, Some, None, codes, nat_eq, if◌then◌else◌}
use Rattle.std.specs.List.{flat_map}
use Rattle.std.specs.Fmt.{decimal}
use Rattle.jm_program.specs.JasminUnits.{name_text}
use Rattle.jm_program.specs.JasminTypes.{method_line}
use Rattle.jm_program.specs.JasminInstructions.{instr_line}
use Rattle.jm_program.specs.declared.class.ClassParts.{ClassParts}
use Rattle.jm_program.specs.declared.class.Method.{Method}
use Rattle.jm_program.specs.declared.code.Code.{Code}
use Rattle.jm_program.specs.declared.code.LineNumber.{LineNumber}
use Rattle.jm_program.specs.declared.instruction.symbolic.Instr.{Instr}
use Rattle.jm_page.specs.Escapes.{escaped}
use Rattle.jm_page.specs.Data.{row_text}
use Rattle.jm_page.specs.declared.row.Row.TheVariants as row
use Rattle.jm_page.specs.declared.source.Source.{Source}

-- ---- methods

-- CLASS.METHODDESCRIPTOR, as the debugger names the place of an instruction
unfoldable pub method_name : List ℕ → Method → List ℕ
method_name class m = name_text class ++ codes "." ++ name_text m.name ++ method_line m.descriptor

-- an entry of the line number table (JVMS 4.7.12): the number of its first instruction, and the line
unfoldable pub entry_text : LineNumber → List ℕ
entry_text l = decimal l.start ++ codes " " ++ decimal l.line

abbrev pub entry_row : LineNumber → List ℕ
entry_row l = row_text row.Line (entry_text l)

-- an instruction is a line of Jasmin
abbrev pub instruction_row : Instr → List ℕ
instruction_row i = row_text row.Instruction (instr_line i)

abbrev pub code_rows : Code → List ℕ
code_rows c = flat_map entry_row c.lines ++ flat_map instruction_row c.instructions

-- a method without code has no rows
abbrev pub rows_with : List ℕ → Option Code → List ℕ
rows_with name None = []
rows_with name (Some c) = row_text row.Method name ++ code_rows c

abbrev pub method_rows : List ℕ → Method → List ℕ
method_rows class m = rows_with (method_name class m) m.code

abbrev pub class_rows : ClassParts → List ℕ
class_rows c = flat_map (method_rows c.name) c.methods

-- ---- sources

-- a line feed ends a row, and the next one begins
unfoldable pub source_byte : ℕ → List ℕ
source_byte b = if nat_eq b 10 then 10 ∷ 32 ∷ [] else escaped (b ∷ [])

unfoldable pub source_lines : List ℕ → List ℕ
source_lines text = 32 ∷ [] ++ flat_map source_byte text ++ 10 ∷ []

-- the source of a class: its name, and the lines of its text
abbrev pub source_rows : Source → List ℕ
source_rows s = row_text row.Source (name_text s.class) ++ source_lines s.text.items
