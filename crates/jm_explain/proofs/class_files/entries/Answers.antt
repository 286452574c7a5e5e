-- The two tables are the same.
use Rattle.std.proofs.Common.{refl}
use Rattle.jm_explain.specs.Table.{class_files}
use Rattle.jm_explain.proofs.class_files.entries.Goals as goal

pub returns : goal.returns
unfolding class_files
returns c = refl
