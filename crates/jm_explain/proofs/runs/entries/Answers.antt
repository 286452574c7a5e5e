-- The two tables are the same.
use Rattle.std.proofs.Common.{refl}
use Rattle.jm_explain.specs.Table.{runs}
use Rattle.jm_explain.proofs.runs.entries.Goals as goal

pub returns : goal.returns
unfolding runs
returns c = refl
