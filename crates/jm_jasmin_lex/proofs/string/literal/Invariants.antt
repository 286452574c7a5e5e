use Rattle.jm_jasmin_lex.specs.Literals.{IsSmall}
use Rattle.jm_jasmin_lex.proofs.Strings.{UnitsSoFar}
use Rattle.jm_jasmin_lex.proofs.string.literal.Given as goal

abbrev pub invariant-loop-character : goal.invariant-loop-character
invariant-loop-character l = record {
  small : IsSmall l.part;
  so_far : UnitsSoFar l.yielded l.units.items l.part;
}
