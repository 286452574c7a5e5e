use Rattle.std.proofs.Common.{◌≡◌, Some, ◌⊎◌, inl, inr}
use Rattle.jm_program.specs.declared.instruction.operation.Branch.{Branch}
use Rattle.jm_program.specs.declared.instruction.operation.Branch.TheVariants as branch
use Rattle.jm_class_format.specs.declared.opcode.Opcode.TheVariants as opcode
use Rattle.jm_class_format.specs.Opcodes.{opcode_at}
use Rattle.jm_encode.specs.OpcodeBytes.{branch_byte}
use Rattle.jm_encode.proofs.Rows.{simple_row, load_row, store_row, branch_row, array_load_row, array_store_row, element_row, return_row, monitor_row, field_row, type_row}
use Rattle.jm_encode.proofs.laws.opcode_bytes_stand_for_opcodes.Goals as goal

either_row : (b : Branch) → (opcode_at (branch_byte b) ≡ Some (opcode.Branch b)) ⊎ (opcode_at (branch_byte b) ≡ Some (opcode.BranchWide b))
either_row (branch.If c) = inl (branch_row (branch.If c))
either_row (branch.IfInts c) = inl (branch_row (branch.IfInts c))
either_row (branch.IfReferences e) = inl (branch_row (branch.IfReferences e))
either_row (branch.IfNull e) = inl (branch_row (branch.IfNull e))
either_row branch.Goto = inl (branch_row branch.Goto)
either_row branch.GotoW = inr (branch_row branch.GotoW)

pub returns-clause-simple : goal.returns-clause-simple
returns-clause-simple c s = simple_row s

pub returns-clause-load : goal.returns-clause-load
returns-clause-load c kind = load_row kind

pub returns-clause-store : goal.returns-clause-store
returns-clause-store c kind = store_row kind

pub returns-clause-branch : goal.returns-clause-branch
returns-clause-branch c b = either_row b

pub returns-clause-array_load : goal.returns-clause-array_load
returns-clause-array_load c kind = array_load_row kind

pub returns-clause-array_store : goal.returns-clause-array_store
returns-clause-array_store c kind = array_store_row kind

pub returns-clause-element : goal.returns-clause-element
returns-clause-element c at element = element_row at element

pub returns-clause-returning : goal.returns-clause-returning
returns-clause-returning c op = return_row op

pub returns-clause-monitor : goal.returns-clause-monitor
returns-clause-monitor c op = monitor_row op

pub returns-clause-field : goal.returns-clause-field
returns-clause-field c op = field_row op

pub returns-clause-of_type : goal.returns-clause-of_type
returns-clause-of_type c op = type_row op
