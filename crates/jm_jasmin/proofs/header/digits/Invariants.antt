use Rattle.std.proofs.Common.{◌≡◌, ◌≤◌, drop}
use Rattle.jm_jasmin.specs.Header.{digits_from}
use Rattle.jm_jasmin.proofs.header.digits.Given as goal

abbrev pub invariant-loop-unit : goal.invariant-loop-unit
invariant-loop-unit l = record { few : l.value ≤ 65535; so_far : digits_from l.value (drop l.unit-index l.units) ≡ digits_from 0 l.units }
