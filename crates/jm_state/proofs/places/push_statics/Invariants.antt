use Rattle.jm_values.specs.Rename.{refs}
use Rattle.jm_state.proofs.Gathered.{IsGathered}
use Rattle.jm_state.proofs.places.push_statics.Given as goal

abbrev pub invariant-loop-value : goal.invariant-loop-value
invariant-loop-value l = IsGathered refs l.statics l.initial.roots l.value-index l.roots
