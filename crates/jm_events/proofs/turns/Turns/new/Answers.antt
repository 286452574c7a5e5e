-- From thread 1 on.
use Rattle.std.proofs.Common.{refl}
use Rattle.jm_world.specs.RoundRobin.{robin}
use Rattle.jm_events.proofs.turns.Turns.new.Goals as goal

pub returns-clause-due : goal.returns-clause-due
unfolding robin
returns-clause-due c = λ w. refl
