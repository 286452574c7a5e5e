-- What is written so far.
use Rattle.std.proofs.Common.{◌≡◌, ◌++◌, take}
use Rattle.std.specs.List.{flat_map}
use Rattle.jm_disassembler.specs.Instructions.{target_row}
use Rattle.jm_disassembler.proofs.instruction.write_targets.Given as goal

abbrev pub invariant-loop-target : goal.invariant-loop-target
invariant-loop-target l = l.out.bytes.items ≡ l.initial.out.bytes.items ++ flat_map (target_row) (take l.target-index l.targets)
