-- What was written, and what the operands that are left make of it.
use Rattle.std.proofs.Common.{◌≡◌, ◌++◌, reverse}
use Rattle.std.specs.List.{flat_map}
use Rattle.jm_debug.specs.Views.{lines_from, value_lines}
use Rattle.jm_debug.specs.Session.{ended}
use Rattle.jm_debug.proofs.Written.{rest_of}
use Rattle.jm_debug.proofs.frame.write_stack.Given as goal

abbrev pub invariant-loop-number : goal.invariant-loop-number
invariant-loop-number g l =
    l.out.bytes.items ++ rest_of value_lines (reverse l.frame.activation.stack) l.number
    ≡ l.initial.out.bytes.items ++ flat_map ended (lines_from value_lines 0 (reverse l.frame.activation.stack))
