use Rattle.jm_world.proofs.Matching.{reaches_alike}
use Rattle.jm_world.proofs.laws.a_machine_reaches_what_its_world_does.Goals as goal

pub returns : goal.returns
returns g c = λ m w h. reaches_alike m w h
