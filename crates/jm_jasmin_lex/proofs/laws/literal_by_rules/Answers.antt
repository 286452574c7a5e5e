use Rattle.jm_jasmin_lex.proofs.Strings.{value_of_literal}
use Rattle.jm_jasmin_lex.proofs.laws.literal_by_rules.Goals as goal

pub returns : goal.returns
returns c = value_of_literal
