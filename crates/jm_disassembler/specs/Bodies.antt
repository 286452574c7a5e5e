-- The lines of a method's body (Jasmin User Guide, "Method Definitions").
use Rattle.std.specs.Prelude.{ℕ, suc, Bool, true, false, ◌==◌, ◌&&◌, nat_le, nat_lt, if◌then◌else◌, List, [], ◌∷◌, ◌++◌, length, Option, Some, None, codes}
use Rattle.std.specs.List.{list_all, flat_map}
use Rattle.std.specs.Fmt.{decimal}
use Rattle.jm_program.specs.Names.{same_text}
use Rattle.jm_program.specs.JasminUnits.{name_text}
use Rattle.jm_program.specs.declared.code.Code.{Code}
use Rattle.jm_program.specs.declared.code.Handler.{Handler}
use Rattle.jm_program.specs.declared.code.LineNumber.{LineNumber}
use Rattle.jm_program.specs.declared.instruction.symbolic.Instr.{Instr}
use Rattle.jm_disassembler.specs.Labels.{label_name, label_word, marks_of, is_marked}
use Rattle.jm_disassembler.specs.Instructions.{instr_text, rows_text}
use Rattle.jm_disassembler.specs.Names.{is_sayable}
use Rattle.jm_disassembler.specs.Said.{is_short, instr_said}

-- ---- what can be said

-- all, which catches everything, is no class that .catch names
abbrev pub caught_said : Option (List ℕ) → Bool
caught_said None = true
caught_said (Some name) = is_sayable name && (if same_text name (codes "all") then false else true)

abbrev pub handler_said : Handler → Bool
handler_said h = caught_said h.catch_type

-- lines stand before the instructions that they are of, one after the other, so they begin in that order
abbrev pub row_said : ℕ → LineNumber → Bool
row_said least l = nat_le least l.start && is_short l.line

abbrev pub lines_said : ℕ → List LineNumber → Bool
lines_said least [] = true
lines_said least (l ∷ ls) = row_said least l && lines_said l.start ls

-- ---- its lines

-- the end of an instruction's line, with its number behind it where that is wanted
abbrev pub note : Bool → ℕ → List ℕ
note false number = codes "\n"
note true number = codes "  ; " ++ (decimal number ++ codes "\n")

unfoldable pub instr_lines : Bool → ℕ → Instr → List ℕ
instr_lines commented number i = codes "  " ++ (instr_text i ++ (note commented number ++ rows_text i))

-- L12: where something jumps, or a range begins or ends
unfoldable pub label_text : List Bool → ℕ → List ℕ
label_text marks number = if is_marked marks number then label_word number ++ codes "\n" else []

unfoldable pub source_text : LineNumber → List ℕ
source_text l = codes "  .line " ++ (decimal l.line ++ codes "\n")

-- the rows at the front that begin at an instruction, and those behind them
abbrev pub source_lines : ℕ → List LineNumber → List ℕ
source_lines number [] = []
source_lines number (l ∷ ls) = if l.start == number then source_text l ++ source_lines number ls else []

abbrev pub lines_behind : ℕ → List LineNumber → List LineNumber
lines_behind number [] = []
lines_behind number (l ∷ ls) = if l.start == number then lines_behind number ls else l ∷ ls

-- the instructions from a number on, and the label behind the last
unfoldable pub body_text : Bool → List Bool → ℕ → List Instr → List LineNumber → List ℕ
body_text commented marks number [] ls = label_text marks number
body_text commented marks number (i ∷ is) ls =
    label_text marks number ++ (source_lines number ls ++ (instr_lines commented number i ++ body_text commented marks (suc number) is (lines_behind number ls)))

abbrev pub caught_text : Option (List ℕ) → List ℕ
caught_text None = codes "all"
caught_text (Some name) = name_text name

unfoldable pub handler_text : Handler → List ℕ
handler_text h =
    codes "  .catch " ++ (caught_text h.catch_type ++ (codes " from " ++ (label_name h.start ++ (codes " to " ++ (label_name h.end
    ++ (codes " using " ++ (label_name h.target ++ codes "\n")))))))

unfoldable pub limit_text : Code → List ℕ
limit_text c = codes "  .limit stack " ++ (decimal c.max_stack ++ (codes "\n  .limit locals " ++ (decimal c.max_locals ++ codes "\n")))

unfoldable pub code_text : Bool → Code → List ℕ
code_text commented c = limit_text c ++ (flat_map handler_text c.handlers ++ body_text commented (marks_of c) 0 c.instructions c.lines)

-- ---- and whether they can be

-- limits are of 16 bits; labels are numbers, of at most so many instructions
abbrev pub sizes_said : Code → Bool
sizes_said c = is_short c.max_stack && is_short c.max_locals && nat_lt (length c.instructions) 4294967295

abbrev pub code_said : Code → Bool
code_said c = sizes_said c && list_all handler_said c.handlers && list_all instr_said c.instructions && lines_said 0 c.lines
