use Rattle.std.specs.Prelude.{reverse}
use Rattle.std.proofs.Common.{length, arith}
use Rattle.std.specs.Slice.Iter.{iter_rest}
use Rattle.jm_values.specs.Rename.{value_shape}
use Rattle.jm_frames.proofs.Refilled.{goes_on_from_end}
use Rattle.jm_frames.proofs.frame.put_operands.Goals as goal

pub loop-depth-preserved : goal.loop-depth-preserved
loop-depth-preserved c =
    goes_on_from_end value_shape (reverse c.args.operands.now) (iter_rest c.args.places.now) c.loop-depth.depth (length c.args.operands.now) c.loop-depth.operands (iter_rest c.loop-depth.places) (iter_rest c.put_value.new.places) c.index-operands-count.result c.put_value.new.value
    (omega arith) (omega arith) c.index-operands-count.is c.loop-depth.invariant c.put_value.ensures.value c.put_value.ensures.left
