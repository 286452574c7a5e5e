-- The slots of the parameters so far.
use Rattle.std.proofs.Common.{◌≡◌, ◌≤◌, take}
use Rattle.std.specs.Prelude.{sum_by}
use Rattle.jm_program.specs.Descriptors.{slots}
use Rattle.jm_program.proofs.descriptor.MethodDescriptor.argument_slots.Given as goal

abbrev pub invariant-loop-parameter : goal.invariant-loop-parameter
invariant-loop-parameter l = (l.total ≤ 255) × (l.total ≡ sum_by slots (take l.parameter-index l.parameter-items))
