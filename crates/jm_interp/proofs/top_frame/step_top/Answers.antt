use Rattle.std.proofs.Common.{refl}
use Rattle.jm_ops.specs.Flows.{flow_outcome}
use Rattle.jm_values.specs.PlainRows.{row_plain}
use Rattle.jm_interp.proofs.TopFrames.{stepped, stays_told}
use Rattle.jm_interp.proofs.top_frame.step_top.Goals as goal

pub returns : goal.returns
returns c f below r s =
    stepped c.args.thread.now _ (row_plain c.args.op.now) (flow_outcome c.step.result) f c.in-Method.frame c.step.new.frame below r c.in-Some.top.now s
    c.in-Some.ensures.value c.in-Method.is refl refl c.step.ensures.row (stays_told c.step.result c.in-Method.frame c.step.new.frame c.step.ensures.told)
    c.step.ensures.frame
