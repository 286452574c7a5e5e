use Rattle.std.proofs.Common.{length, arith}
use Rattle.std.specs.Prelude.{reverse}
use Rattle.std.specs.Slice.Iter.{iter_rest}
use Rattle.jm_state.specs.Places.{stack_frame_shape}
use Rattle.jm_frames.proofs.Refilled.{goes_on_from_end}
use Rattle.jm_state.proofs.places.put_frames.Goals as goal

pub loop-depth-preserved : goal.loop-depth-preserved
loop-depth-preserved c =
    goes_on_from_end stack_frame_shape (reverse c.args.frames.now) (iter_rest c.args.places.now) c.loop-depth.depth
    (length c.args.frames.now) c.loop-depth.frames (iter_rest c.loop-depth.places)
    (iter_rest c.put_frame.new.places) c.index-frames-count.result c.put_frame.new.frame
    (omega arith) (omega arith) c.index-frames-count.is c.loop-depth.invariant c.put_frame.ensures.frame c.put_frame.ensures.left
