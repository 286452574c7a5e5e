use Rattle.jm_jasmin_lex.proofs.TokensSoFar.{SoFar}
use Rattle.jm_jasmin_lex.proofs.reading.lexed.Given as goal

abbrev pub invariant-loop-at : goal.invariant-loop-at
invariant-loop-at l = SoFar l.text l.tokens.items l.state l.at l.line
