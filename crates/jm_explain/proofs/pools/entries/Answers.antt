-- The two tables are the same.
use Rattle.std.proofs.Common.{refl}
use Rattle.jm_explain.specs.Table.{pools}
use Rattle.jm_explain.proofs.pools.entries.Goals as goal

pub returns : goal.returns
unfolding pools
returns c = refl
