use Rattle.jm_jasmin.proofs.TextForms.{same_lines}
use Rattle.jm_jasmin.proofs.laws.spacing_changes_nothing.Goals as goal

pub returns : goal.returns
returns c = same_lines
