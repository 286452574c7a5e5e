use Rattle.jm_par_copy.proofs.Collecting.{end_is_collected}
use Rattle.jm_par_copy.proofs.law.the_end_is_collected.Goals as goal

pub returns : goal.returns
returns c = end_is_collected
