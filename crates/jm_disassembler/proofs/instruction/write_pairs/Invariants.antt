-- What is written so far.
use Rattle.std.proofs.Common.{◌≡◌, ◌++◌, take}
use Rattle.std.specs.List.{flat_map}
use Rattle.jm_disassembler.specs.Instructions.{pair_row}
use Rattle.jm_disassembler.proofs.instruction.write_pairs.Given as goal

abbrev pub invariant-loop-pair : goal.invariant-loop-pair
invariant-loop-pair l = l.out.bytes.items ≡ l.initial.out.bytes.items ++ flat_map (pair_row) (take l.pair-index l.pairs)
