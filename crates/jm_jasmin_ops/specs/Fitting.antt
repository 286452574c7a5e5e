-- The rules that a spelled instruction keeps, whatever its labels come to (JVMS 4.9.1, 6.5).
use Rattle.std.specs.Prelude.{◌≡◌, ℕ, ℤ, pos, ◌+ℤ◌, Bool, true, ◌&&◌, nat_lt, int_le, List, [], ◌∷◌, length, Option, Some, None, Ok, IsTrue}
use Rattle.jm_program.specs.Instructions.{is_above, instr_fits}
use Rattle.jm_jasmin_lex.specs.Token.{TokenParts}
use Rattle.jm_jasmin_ops.specs.Instruction.{instruction_at}
use Rattle.jm_jasmin_ops.specs.declared.labelled.LabelledTable.{LabelledTable}
use Rattle.jm_jasmin_ops.specs.declared.labelled.LabelledPair.{LabelledPair}
use Rattle.jm_jasmin_ops.specs.declared.labelled.LabelledInstr.{LabelledInstr}
use Rattle.jm_jasmin_ops.specs.declared.labelled.LabelledInstr.TheVariants as labelled
use Rattle.jm_jasmin_ops.specs.declared.labelled.Line.{Line}

-- a target at least, and the key of the last is an int (JVMS 6.5 tableswitch)
abbrev pub table_fits : LabelledTable → Bool
table_fits t = nat_lt 0 (length t.targets) && int_le (t.low +ℤ pos (length t.targets)) (pos 2147483648)

-- the keys rise strictly, from above the one before them (JVMS 6.5 lookupswitch)
abbrev pub pairs_rise : Option ℤ → List LabelledPair → Bool
pairs_rise previous [] = true
pairs_rise previous (pair ∷ pairs) = is_above previous pair.key && pairs_rise (Some pair.key) pairs

-- one without a target can stand in a code of any number of instructions
abbrev pub KeepsRules : LabelledInstr → Type 0
KeepsRules (labelled.Named i) = (count : ℕ) → IsTrue (instr_fits count i)
KeepsRules (labelled.Branch op l) = Unit {0}
KeepsRules (labelled.TableSwitch t) = IsTrue (table_fits t)
KeepsRules (labelled.LookupSwitch l) = IsTrue (pairs_rise None l.pairs)

abbrev pub SpelledKeepsRules : Type 0
SpelledKeepsRules = (tokens : List TokenParts) (line : Line) → instruction_at tokens ≡ Ok line → KeepsRules line.instruction
