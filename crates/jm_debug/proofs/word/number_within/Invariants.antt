-- The number so far, and what the digits that are left make of it.
use Rattle.std.proofs.Common.{◌≡◌, ◌≤◌, drop}
use Rattle.jm_world.specs.Schedules.{number_within}
use Rattle.jm_schedule.proofs.Numbers.{rest_within}
use Rattle.jm_debug.proofs.word.number_within.Given as goal

abbrev pub invariant-loop-unit : goal.invariant-loop-unit
invariant-loop-unit l = (l.value ≤ l.high) × (number_within l.low l.high l.word ≡ rest_within l.low l.high l.value (drop l.unit-index l.word))
