use Rattle.jm_world.proofs.KeepingCode.{runs_have_code}
use Rattle.jm_world.proofs.laws.runs_have_code.Goals as goal

pub returns : goal.returns
returns c = runs_have_code
