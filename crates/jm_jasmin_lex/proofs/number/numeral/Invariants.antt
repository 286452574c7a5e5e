use Rattle.std.proofs.Common.{◌≡◌, ◌≤◌, drop}
use Rattle.jm_jasmin_lex.specs.Integers.{numeral}
use Rattle.jm_jasmin_lex.proofs.Numbers.{numeral_from}
use Rattle.jm_jasmin_lex.proofs.number.numeral.Given as goal

abbrev pub invariant-loop-byte : goal.invariant-loop-byte
invariant-loop-byte l = record {
  few : l.value ≤ l.most;
  so_far : numeral_from l.radix l.most l.value (drop l.byte-index l.digits) ≡ numeral l.radix l.most l.digits;
}
