use Rattle.jm_par_copy.proofs.Collecting.{held_is_loads}
use Rattle.jm_par_copy.proofs.law.what_is_held_can_be_put_together.Goals as goal

pub returns : goal.returns
returns c = held_is_loads
