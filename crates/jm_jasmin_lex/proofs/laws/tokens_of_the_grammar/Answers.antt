use Rattle.jm_jasmin_lex.proofs.TokensLie.{tokens_lie, lying_tokens}
use Rattle.jm_jasmin_lex.proofs.laws.tokens_of_the_grammar.Goals as goal

pub returns : goal.returns
returns c = record { only = tokens_lie; all = lying_tokens }
