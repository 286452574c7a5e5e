use Rattle.std.specs.Slice.Iter.{iter_rest}
use Rattle.jm_world.specs.Frames.{number_shape}
use Rattle.jm_frames.proofs.Refilled.{IsOnTheWay}
use Rattle.jm_state.proofs.places.put_literals.Given as goal

abbrev pub invariant-loop-place : goal.invariant-loop-place
invariant-loop-place l = IsOnTheWay number_shape l.initial.literals (iter_rest l.initial.places) l.place-index l.literals (iter_rest l.places)
