use Rattle.jm_tables.proofs.ChainLaws.{is_along}
use Rattle.jm_tables.proofs.laws.above_along_the_chain.Goals as goal

pub returns : goal.returns
returns c = λ program names classes class above are. is_along program names classes are above class
