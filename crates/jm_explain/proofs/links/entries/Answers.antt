-- The two tables are the same.
use Rattle.std.proofs.Common.{refl}
use Rattle.jm_explain.specs.Table.{links}
use Rattle.jm_explain.proofs.links.entries.Goals as goal

pub returns : goal.returns
unfolding links
returns c = refl
