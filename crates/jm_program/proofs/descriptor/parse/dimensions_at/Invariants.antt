-- What was passed, and the brackets at the front of what is left, are the brackets at the front.
use Rattle.std.proofs.Common.{◌≡◌, ◌+◌, ◌≤◌, drop, length}
use Rattle.std.specs.List.{prefix_len}
use Rattle.jm_program.specs.DescriptorReading.{is_bracket}
use Rattle.jm_program.proofs.descriptor.parse.dimensions_at.Given as goal

abbrev pub invariant-loop-unit : goal.invariant-loop-unit
invariant-loop-unit l = (l.dimensions ≡ l.unit-index) × (prefix_len is_bracket l.units ≡ l.dimensions + prefix_len is_bracket (drop l.unit-index l.units))
