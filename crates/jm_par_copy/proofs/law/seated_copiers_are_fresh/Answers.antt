use Rattle.jm_par_copy.proofs.Seats.{seated_are_fresh}
use Rattle.jm_par_copy.proofs.law.seated_copiers_are_fresh.Goals as goal

pub returns : goal.returns
returns c = seated_are_fresh
