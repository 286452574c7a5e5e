use Rattle.std.specs.Slice.Iter.{iter_rest}
use Rattle.jm_values.specs.Shape.{option_shape}
use Rattle.jm_values.specs.Rename.{value_shape}
use Rattle.jm_frames.proofs.Refilled.{IsOnTheWay}
use Rattle.jm_frames.proofs.frame.put_locals.Given as goal

abbrev pub invariant-loop-local : goal.invariant-loop-local
invariant-loop-local l = IsOnTheWay (option_shape value_shape) l.initial.locals (iter_rest l.initial.places) l.local-index l.locals (iter_rest l.places)
