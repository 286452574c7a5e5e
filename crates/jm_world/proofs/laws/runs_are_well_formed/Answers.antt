use Rattle.jm_world.proofs.LoadsWellFormed.{runs_are_well_formed}
use Rattle.jm_world.proofs.laws.runs_are_well_formed.Goals as goal

pub returns : goal.returns
returns c = runs_are_well_formed
