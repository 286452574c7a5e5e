use Rattle.jm_world.proofs.NamesAreThere.{runs_have_what_is_named}
use Rattle.jm_world.proofs.laws.runs_have_what_is_named.Goals as goal

pub returns : goal.returns
returns c = runs_have_what_is_named
