use Rattle.jm_values.specs.Shape.{option_shape}
use Rattle.jm_values.specs.Rename.{value_shape}
use Rattle.jm_state.proofs.Gathered.{IsGathered}
use Rattle.jm_state.proofs.places.push_locals.Given as goal

abbrev pub invariant-loop-local : goal.invariant-loop-local
invariant-loop-local l = IsGathered ((option_shape value_shape).refs) l.locals l.initial.roots l.local-index l.roots
