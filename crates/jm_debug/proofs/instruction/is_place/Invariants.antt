-- None of the classes that were passed is the place's.
use Rattle.std.proofs.Common.{◌≡◌}
use Rattle.jm_debug.proofs.Instructions.{classes_from}
use Rattle.jm_debug.proofs.instruction.is_place.Given as goal

abbrev pub invariant-loop-class : goal.invariant-loop-class
invariant-loop-class l = classes_from l.program l.place 0 ≡ classes_from l.program l.place l.class-index
