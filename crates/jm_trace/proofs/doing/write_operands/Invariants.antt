-- What was written, and what the operands that are left make of it.
use Rattle.std.proofs.Common.{◌≡◌, ◌++◌, reverse}
use Rattle.jm_trace.specs.Doings.{operand_text, operands_text}
use Rattle.jm_trace.proofs.Operands.{rest_of}
use Rattle.jm_trace.proofs.doing.write_operands.Given as goal

abbrev pub invariant-loop-number : goal.invariant-loop-number
invariant-loop-number g l =
    l.out.bytes.items ++ rest_of operand_text (reverse l.frame.activation.stack) l.number
    ≡ l.initial.out.bytes.items ++ operands_text l.frame.activation.stack
