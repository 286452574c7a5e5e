use Rattle.std.proofs.Common.{take}
use Rattle.jm_opcodes.specs.StartTable.{IsTable}
use Rattle.jm_opcodes.proofs.starts.numbers_of.Given as goal

abbrev pub invariant-loop-number : goal.invariant-loop-number
invariant-loop-number l = IsTable l.numbers.items (take l.number l.starts)
