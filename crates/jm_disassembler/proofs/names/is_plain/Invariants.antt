-- What is left of the code units decides.
use Rattle.std.proofs.Common.{◌≡◌, drop, false}
use Rattle.jm_disassembler.specs.Names.{plain_from}
use Rattle.jm_disassembler.proofs.names.is_plain.Given as goal

abbrev pub invariant-loop-unit : goal.invariant-loop-unit
invariant-loop-unit l = plain_from l.waiting (drop l.unit-index l.units) ≡ plain_from false l.units
