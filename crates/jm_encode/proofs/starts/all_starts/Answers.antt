use Rattle.std.proofs.Common.{arith}
use Rattle.jm_encode.proofs.LaidOut.{laid_out_more}
use Rattle.jm_encode.proofs.starts.all_starts.Goals as goal

pub loop-instr-preserved : goal.loop-instr-preserved
loop-instr-preserved c = rw (c.size_at-size.ensures, c.in_ok-push.ensures.items)
    (laid_out_more c.args.instructions.now c.loop-instr.instr-index c.loop-instr.at c.loop-instr.starts.items c.instr-item.result c.instr-item.result c.loop-instr.invariant c.loop-instr-test.true c.instr-item.is (omega (arith, c.size_at-size.ensures)))
