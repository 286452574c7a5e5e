use Rattle.std.specs.Prelude.{reverse}
use Rattle.jm_values.specs.Rename.{refs}
use Rattle.jm_state.proofs.Gathered.{IsGathered}
use Rattle.jm_state.proofs.places.push_operands.Given as goal

abbrev pub invariant-loop-depth : goal.invariant-loop-depth
invariant-loop-depth l = IsGathered refs (reverse l.operands) l.initial.roots l.depth l.roots
