-- Labels and what uses them (Jasmin User Guide, "Labels"): each use becomes the number of an instruction, by where the labels stand.
use Rattle.std.specs.Prelude.{ℕ, nat_lt, if◌then◌else◌, List, Option, Some, None, Result, Ok, Err}
use Rattle.jm_bytes.specs.Reading.{each}
use Rattle.jm_program.specs.Texts.{utf16_of}
use Rattle.jm_program.specs.declared.code.Handler.{Handler}
use Rattle.jm_program.specs.declared.instruction.plain.SwitchPair.{SwitchPair}
use Rattle.jm_program.specs.declared.instruction.plain.Plain.TheVariants as plain
use Rattle.jm_program.specs.declared.instruction.symbolic.Instr.{Instr}
use Rattle.jm_program.specs.declared.instruction.symbolic.Instr.TheVariants as instr
use Rattle.jm_jasmin_ops.specs.Label.{LabelParts}
use Rattle.jm_jasmin_ops.specs.declared.fault.AsmFault.{AsmFault}
use Rattle.jm_jasmin_ops.specs.declared.fault.AsmFault.TheVariants as fault
use Rattle.jm_jasmin_ops.specs.declared.labelled.LabelledPair.{LabelledPair}
use Rattle.jm_jasmin_ops.specs.declared.labelled.LabelledTable.{LabelledTable}
use Rattle.jm_jasmin_ops.specs.declared.labelled.LabelledLookup.{LabelledLookup}
use Rattle.jm_jasmin_ops.specs.declared.labelled.LabelledInstr.{LabelledInstr}
use Rattle.jm_jasmin_ops.specs.declared.labelled.LabelledInstr.TheVariants as labelled
use Rattle.jm_jasmin.specs.declared.item.CatchRow.{CatchRow}
use Rattle.jm_jasmin.specs.declared.item.Item.{Item}
use Rattle.jm_jasmin.specs.declared.item.Item.TheVariants as item
use Rattle.jm_jasmin.specs.declared.part.Part.{Part}
use Rattle.jm_jasmin.specs.declared.part.Part.TheVariants as part
use Rattle.jm_jasmin.specs.Lines.{◌>>=◌}

-- ---- by the values of the labels and the number of instructions

-- where a range may end: at an instruction, or behind the last
abbrev pub end_at : ℕ → Option ℕ → Result ℕ AsmFault
end_at line None = Err (fault.NoLabel line)
end_at line (Some value) = Ok value

-- every other use: at an instruction
abbrev pub place_at : ℕ → ℕ → Option ℕ → Result ℕ AsmFault
place_at count line None = Err (fault.NoLabel line)
place_at count line (Some value) = if nat_lt value count then Ok value else Err (fault.NoLabel line)

unfoldable pub target : (List ℕ → Option ℕ) → ℕ → LabelParts → Result ℕ AsmFault
target value_of count l = place_at count l.line (value_of (utf16_of l.name))

unfoldable pub pair_of : (List ℕ → Option ℕ) → ℕ → LabelledPair → Result SwitchPair AsmFault
pair_of value_of count p = target value_of count p.target >>= λ t. Ok (record { key = p.key; target = t })

unfoldable pub table_of : (List ℕ → Option ℕ) → ℕ → LabelledTable → Result Instr AsmFault
table_of value_of count t = do
  targets ← each (target value_of count) t.targets
  default ← target value_of count t.default
  Ok (instr.Plain (plain.TableSwitch (record { low = t.low; targets = targets; default = default })))

unfoldable pub lookup_of : (List ℕ → Option ℕ) → ℕ → LabelledLookup → Result Instr AsmFault
lookup_of value_of count l = do
  pairs ← each (pair_of value_of count) l.pairs
  default ← target value_of count l.default
  Ok (instr.Plain (plain.LookupSwitch (record { pairs = pairs; default = default })))

-- an instruction with its targets
unfoldable pub instruction_of : (List ℕ → Option ℕ) → ℕ → LabelledInstr → Result Instr AsmFault
instruction_of value_of count (labelled.Named i) = Ok i
instruction_of value_of count (labelled.Branch b l) = target value_of count l >>= λ t. Ok (instr.Plain (plain.Branch b t))
instruction_of value_of count (labelled.TableSwitch t) = table_of value_of count t
instruction_of value_of count (labelled.LookupSwitch l) = lookup_of value_of count l

-- a row of the exception table (JVMS 4.7.3)
unfoldable pub handler_of : (List ℕ → Option ℕ) → ℕ → CatchRow → Result Handler AsmFault
handler_of value_of count row = do
  start ← place_at count row.line (value_of row.start)
  end ← end_at row.line (value_of row.end)
  target ← place_at count row.line (value_of row.target)
  Ok (record { start = start; end = end; target = target; catch_type = row.catch_type })

-- what becomes of an item: a line that begins behind the last instruction names none
unfoldable pub part_of : (List ℕ → Option ℕ) → ℕ → Item → Result Part AsmFault
part_of value_of count (item.Instruction i) = instruction_of value_of count i >>= λ i. Ok (part.Instruction i)
part_of value_of count (item.Catch row) = handler_of value_of count row >>= λ h. Ok (part.Handler h)
part_of value_of count (item.Line entry) = Ok (if nat_lt entry.start count then part.Line entry else part.Nothing)
part_of value_of count _ = Ok part.Nothing
