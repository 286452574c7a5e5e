-- The two tables are the same.
use Rattle.std.proofs.Common.{refl}
use Rattle.jm_explain.specs.Table.{instructions}
use Rattle.jm_explain.proofs.instructions.entries.Goals as goal

pub returns : goal.returns
unfolding instructions
returns c = refl
