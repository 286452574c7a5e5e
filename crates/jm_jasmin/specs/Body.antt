-- The code that the items of a body come to (JVMS 4.7.3, 4.7.12).
use Rattle.std.specs.Prelude.{ℕ, nat_lt, nat_le, ◌||◌, if◌then◌else◌, List, [], ◌∷◌, Option, Some, None, Result, Ok, Err}
use Rattle.std.specs.List.{flat_map}
use Rattle.jm_bytes.specs.Reading.{each}
use Rattle.jm_program.specs.Flags.{is_abstract}
use Rattle.jm_program.specs.Fits.{method_slots}
use Rattle.jm_program.specs.declared.class.Method.{Method}
use Rattle.jm_program.specs.declared.code.Code.{Code}
use Rattle.jm_program.specs.declared.code.Handler.{Handler}
use Rattle.jm_program.specs.declared.code.LineNumber.{LineNumber}
use Rattle.jm_program.specs.declared.instruction.symbolic.Instr.{Instr}
use Rattle.jm_class_format.specs.Symbols.{or_else}
use Rattle.jm_jasmin_ops.specs.declared.fault.AsmFault.{AsmFault}
use Rattle.jm_jasmin_ops.specs.declared.fault.AsmFault.TheVariants as fault
use Rattle.jm_jasmin.specs.declared.item.Item.{Item}
use Rattle.jm_jasmin.specs.declared.item.Item.TheVariants as item
use Rattle.jm_jasmin.specs.declared.part.Part.{Part}
use Rattle.jm_jasmin.specs.declared.part.Part.TheVariants as part
use Rattle.jm_jasmin.specs.declared.part.Tables.{Tables}
use Rattle.jm_jasmin.specs.Lines.{◌>>=◌}
use Rattle.jm_jasmin.specs.Items.{instruction_count, label_value, stack_limit, locals_limit}
use Rattle.jm_jasmin.specs.Labels.{part_of}

-- ---- the parts of a code, each kind in the order of the text

abbrev pub instruction_in : Part → List Instr
instruction_in (part.Instruction i) = i ∷ []
instruction_in _ = []

abbrev pub handler_in : Part → List Handler
handler_in (part.Handler h) = h ∷ []
handler_in _ = []

abbrev pub line_in : Part → List LineNumber
line_in (part.Line entry) = entry ∷ []
line_in _ = []

unfoldable pub tables_of : List Part → Tables
tables_of parts = record { instructions = flat_map instruction_in parts; handlers = flat_map handler_in parts; lines = flat_map line_in parts }

-- ---- faults at .end method, in the order of their lines

-- a range that begins at an instruction, of so many, and is empty
abbrev pub empty_between : ℕ → ℕ → Option ℕ → Option ℕ → Option AsmFault
empty_between count line (Some start) (Some end) = if nat_lt start end || nat_le count start then None else Some (fault.BadCount line)
empty_between count line _ _ = None

abbrev pub empty_range_in : (List ℕ → Option ℕ) → ℕ → Item → Option AsmFault
empty_range_in value_of count (item.Catch row) = empty_between count row.line (value_of row.start) (value_of row.end)
empty_range_in value_of count _ = None

-- the first empty range, by the values of the labels and the number of instructions
unfoldable pub empty_range : (List ℕ → Option ℕ) → ℕ → List Item → Option AsmFault
empty_range value_of count [] = None
empty_range value_of count (i ∷ is) = or_else (empty_range_in value_of count i) (empty_range value_of count is)

abbrev pub unless_fault : Option AsmFault → Result (Unit {0}) AsmFault
unless_fault None = Ok tt
unless_fault (Some e) = Err e

-- a limit that is not given is 1
abbrev pub limit_or_one : Option ℕ → ℕ
limit_or_one None = 1
limit_or_one (Some n) = n

abbrev pub code_with : ℕ → ℕ → Tables → Code
code_with max_stack max_locals tables = record {
  max_stack = max_stack;
  max_locals = max_locals;
  instructions = tables.instructions;
  handlers = tables.handlers;
  lines = tables.lines;
}

-- the locals of a method that is not abstract hold its arguments
unfoldable pub checked_locals : Method → ℕ → ℕ → Result (Unit {0}) AsmFault
checked_locals m line max_locals = if is_abstract m.flags || nat_le (method_slots m) max_locals then Ok tt else Err (fault.BadCount line)

-- a method that is not abstract has an instruction
unfoldable pub checked_count : Method → ℕ → ℕ → Result (Unit {0}) AsmFault
checked_count m end_line count = if is_abstract m.flags || nat_lt 0 count then Ok tt else Err (fault.BadCount end_line)

-- The code of a method that begins and ends at these lines: none where it is abstract. The locals are those of the first line, a range
-- has its own, and the uses of labels are looked at where the method ends.
unfoldable pub code_of : Method → ℕ → ℕ → List Item → Result (Option Code) AsmFault
code_of m line end_line items = do
  _ ← checked_locals m line (limit_or_one (locals_limit items))
  _ ← unless_fault (empty_range (label_value items) (instruction_count items) items)
  parts ← each (part_of (label_value items) (instruction_count items)) items
  _ ← checked_count m end_line (instruction_count items)
  if is_abstract m.flags then Ok None
      else Ok (Some (code_with (limit_or_one (stack_limit items)) (limit_or_one (locals_limit items)) (tables_of parts)))
