use Rattle.std.proofs.Common.{length, arith}
use Rattle.jm_values.specs.Rename.{refs}
use Rattle.jm_state.proofs.Gathered.{gathers_more_from_end}
use Rattle.jm_state.proofs.places.push_operands.Goals as goal

pub loop-depth-preserved : goal.loop-depth-preserved
loop-depth-preserved c =
    gathers_more_from_end refs c.args.operands.now c.args.roots.now c.loop-depth.depth
    (length c.args.operands.now) c.loop-depth.roots c.push_value.new.roots c.index-operands-count.result
    (omega arith) (omega arith) c.index-operands-count.is c.loop-depth.invariant c.in_ok-push_value.ensures
