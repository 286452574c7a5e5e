use Rattle.jm_par_copy.proofs.Ends.{ages_are_by_lane}
use Rattle.jm_par_copy.proofs.law.ages_are_by_lane.Goals as goal

pub returns : goal.returns
returns c = ages_are_by_lane
