use Rattle.std.specs.Prelude.{reverse}
use Rattle.std.specs.Slice.Iter.{iter_rest}
use Rattle.jm_values.specs.Rename.{value_shape}
use Rattle.jm_frames.proofs.Refilled.{IsOnTheWay}
use Rattle.jm_frames.proofs.frame.put_operands.Given as goal

abbrev pub invariant-loop-depth : goal.invariant-loop-depth
invariant-loop-depth l = IsOnTheWay value_shape (reverse l.initial.operands) (iter_rest l.initial.places) l.depth (reverse l.operands) (iter_rest l.places)
