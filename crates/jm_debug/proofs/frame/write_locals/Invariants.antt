-- What was written, and what the variables that are left make of it.
use Rattle.std.proofs.Common.{◌≡◌, ◌++◌}
use Rattle.std.specs.List.{flat_map}
use Rattle.jm_debug.specs.Views.{lines_from, local_lines}
use Rattle.jm_debug.specs.Session.{ended}
use Rattle.jm_debug.proofs.Written.{rest_of}
use Rattle.jm_debug.proofs.frame.write_locals.Given as goal

abbrev pub invariant-loop-number : goal.invariant-loop-number
invariant-loop-number g l =
    l.out.bytes.items ++ rest_of local_lines l.frame.activation.locals l.number
    ≡ l.initial.out.bytes.items ++ flat_map ended (lines_from local_lines 0 l.frame.activation.locals)
