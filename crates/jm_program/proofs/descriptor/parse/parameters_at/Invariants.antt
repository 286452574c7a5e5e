-- The parameters so far, and those of what is left, are those of the text.
use Rattle.std.proofs.Common.{◌≡◌, length}
use Rattle.jm_program.proofs.ParameterLoop.{with_front, left_at}
use Rattle.jm_program.proofs.descriptor.parse.parameters_at.Given as goal

abbrev pub invariant-loop-first : goal.invariant-loop-first
invariant-loop-first l = with_front l.parameters.items (left_at l.rest) ≡ left_at l.units

abbrev pub decreases-loop-first : goal.decreases-loop-first
decreases-loop-first l = length l.rest
