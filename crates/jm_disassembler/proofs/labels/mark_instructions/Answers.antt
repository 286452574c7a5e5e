-- One more instruction is marked.
use Rattle.jm_disassembler.proofs.MarkLoops.{next_marked}
use Rattle.jm_disassembler.proofs.labels.mark_instructions.Goals as goal

pub loop-instruction-preserved : goal.loop-instruction-preserved
loop-instruction-preserved c =
    next_marked c.loop-instruction.marks c.mark_targets.new.marks _ c.args.instructions.now c.loop-instruction.instruction-index c.instruction-item.result
    c.instruction-item.result c.loop-instruction-test.true c.instruction-item.is c.mark_targets.ensures c.loop-instruction.invariant
