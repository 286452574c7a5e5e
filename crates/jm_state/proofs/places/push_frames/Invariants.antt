use Rattle.std.specs.Prelude.{reverse}
use Rattle.jm_state.specs.Places.{refs_stack_frame}
use Rattle.jm_state.proofs.Gathered.{IsGathered}
use Rattle.jm_state.proofs.places.push_frames.Given as goal

abbrev pub invariant-loop-depth : goal.invariant-loop-depth
invariant-loop-depth l = IsGathered refs_stack_frame (reverse l.frames) l.initial.roots l.depth l.roots
