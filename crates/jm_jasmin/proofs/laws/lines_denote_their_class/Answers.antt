use Rattle.jm_jasmin.proofs.TextForms.{class_text}
use Rattle.jm_jasmin.proofs.laws.lines_denote_their_class.Goals as goal

pub returns : goal.returns
returns c = class_text
