-- The two tables are the same.
use Rattle.std.proofs.Common.{refl}
use Rattle.jm_explain.specs.Table.{sessions}
use Rattle.jm_explain.proofs.sessions.entries.Goals as goal

pub returns : goal.returns
unfolding sessions
returns c = refl
