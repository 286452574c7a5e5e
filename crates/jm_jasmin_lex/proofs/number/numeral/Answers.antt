use Rattle.std.proofs.Common.{rules}
use Rattle.jm_jasmin_lex.proofs.Numbers.{numeral_empty}
use Rattle.jm_jasmin_lex.proofs.number.numeral.Goals as goal

pub returns-then-is_empty-clause-value : goal.returns-then-is_empty-clause-value
returns-then-is_empty-clause-value c = numeral_empty c.args.radix c.args.most c.args.digits.now (search rules)
