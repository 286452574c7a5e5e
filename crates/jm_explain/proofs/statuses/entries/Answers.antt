-- The two tables are the same.
use Rattle.std.proofs.Common.{refl}
use Rattle.jm_explain.specs.Table.{statuses}
use Rattle.jm_explain.proofs.statuses.entries.Goals as goal

pub returns : goal.returns
unfolding statuses
returns c = refl
