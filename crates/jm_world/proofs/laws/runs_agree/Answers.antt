use Rattle.jm_world.proofs.RenumberedRuns.{runs_agree}
use Rattle.jm_world.proofs.laws.runs_agree.Goals as goal

pub returns : goal.returns
returns c = runs_agree
