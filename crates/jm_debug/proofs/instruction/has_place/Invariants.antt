-- None of the methods that were passed is the place's.
use Rattle.std.proofs.Common.{◌≡◌}
use Rattle.jm_debug.proofs.Instructions.{methods_from}
use Rattle.jm_debug.proofs.instruction.has_place.Given as goal

abbrev pub invariant-loop-method : goal.invariant-loop-method
invariant-loop-method l = methods_from l.methods l.place 0 ≡ methods_from l.methods l.place l.method-index
