use Rattle.std.specs.Slice.Iter.{iter_rest}
use Rattle.jm_values.specs.Rename.{value_shape}
use Rattle.jm_frames.proofs.Refilled.{IsOnTheWay}
use Rattle.jm_state.proofs.places.put_statics.Given as goal

abbrev pub invariant-loop-value : goal.invariant-loop-value
invariant-loop-value l = IsOnTheWay value_shape l.initial.statics (iter_rest l.initial.places) l.value-index l.statics (iter_rest l.places)
