use Rattle.jm_ops.proofs.Lookup.{fitting_is_ordered}
use Rattle.jm_ops.proofs.laws.fitting_instructions_are_ordered.Goals as goal

pub returns : goal.returns
returns c = fitting_is_ordered
