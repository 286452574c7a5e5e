use Rattle.jm_values.proofs.NaturalRows.{plain_natural}
use Rattle.jm_values.proofs.laws.plain_rows_commute_with_renaming.Goals as goal

pub returns : goal.returns
returns c = plain_natural
