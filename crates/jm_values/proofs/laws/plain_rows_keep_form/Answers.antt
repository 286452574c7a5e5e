use Rattle.jm_values.proofs.KeepsForm.{plain_keeps}
use Rattle.jm_values.proofs.laws.plain_rows_keep_form.Goals as goal

pub returns : goal.returns
returns c = plain_keeps
