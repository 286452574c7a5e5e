use Rattle.jm_jasmin.proofs.TextForms.{one_class}
use Rattle.jm_jasmin.proofs.laws.lines_of_one_class.Goals as goal

pub returns : goal.returns
returns c = one_class
