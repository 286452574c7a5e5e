-- The two tables are the same.
use Rattle.std.proofs.Common.{refl}
use Rattle.jm_explain.specs.Table.{assembler_texts}
use Rattle.jm_explain.proofs.assembler_texts.entries.Goals as goal

pub returns : goal.returns
unfolding assembler_texts
returns c = refl
