-- What was passed, and where the first ; stands in what is left.
use Rattle.std.proofs.Common.{◌≡◌, ◌+◌, ◌≤◌, drop, length}
use Rattle.std.specs.List.{position_or_len}
use Rattle.jm_program.specs.DescriptorReading.{is_semicolon}
use Rattle.jm_program.proofs.descriptor.parse.semicolon_at.Given as goal

abbrev pub invariant-loop-unit : goal.invariant-loop-unit
invariant-loop-unit l = (l.at ≡ l.unit-index) × (position_or_len is_semicolon l.units ≡ l.at + position_or_len is_semicolon (drop l.unit-index l.units))
