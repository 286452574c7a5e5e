use Rattle.std.proofs.Common.{◌∙◌}
use Rattle.jm_state.specs.Parts.{named_type}
use Rattle.jm_interp.proofs.Caught.{passed}
use Rattle.jm_interp.proofs.handlers.target_among.Goals as goal

pub loop-handler-preserved : goal.loop-handler-preserved
loop-handler-preserved c w same =
    let program = c.args.linked.now.program in
    c.loop-handler.invariant w same
    ∙ passed w program c.args.index (named_type program c.args.thrown) c.args.handlers.now c.loop-handler.handler-index _
    c.loop-handler-test.true (c.catches.ensures w same) c.if-catches.false
