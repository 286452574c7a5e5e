use Rattle.jm_world.specs.Frames.{number_shape}
use Rattle.jm_state.proofs.Gathered.{IsGathered}
use Rattle.jm_state.proofs.places.push_literals.Given as goal

abbrev pub invariant-loop-place : goal.invariant-loop-place
invariant-loop-place l = IsGathered number_shape.refs l.literals l.initial.roots l.place-index l.roots
