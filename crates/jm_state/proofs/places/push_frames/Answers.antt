use Rattle.std.proofs.Common.{length, arith}
use Rattle.jm_state.specs.Places.{refs_stack_frame}
use Rattle.jm_state.proofs.Gathered.{gathers_more_from_end}
use Rattle.jm_state.proofs.places.push_frames.Goals as goal

pub loop-depth-preserved : goal.loop-depth-preserved
loop-depth-preserved c =
    gathers_more_from_end refs_stack_frame c.args.frames.now c.args.roots.now c.loop-depth.depth
    (length c.args.frames.now) c.loop-depth.roots c.push_frame.new.roots c.index-frames-count.result
    (omega arith) (omega arith) c.index-frames-count.is c.loop-depth.invariant c.in_ok-push_frame.ensures
