use Rattle.std.specs.Prelude.{reverse}
use Rattle.std.specs.Slice.Iter.{iter_rest}
use Rattle.jm_frames.proofs.Refilled.{IsOnTheWay}
use Rattle.jm_state.specs.Places.{stack_frame_shape}
use Rattle.jm_state.proofs.places.put_frames.Given as goal

abbrev pub invariant-loop-depth : goal.invariant-loop-depth
invariant-loop-depth l = IsOnTheWay stack_frame_shape (reverse l.initial.frames) (iter_rest l.initial.places) l.depth (reverse l.frames) (iter_rest l.places)
