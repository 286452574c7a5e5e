-- The top is the last.
use Rattle.jm_state.proofs.Popping.{last_taken}
use Rattle.jm_state.proofs.arguments.arguments_on.Goals as goal

pub returns : goal.returns
returns c = last_taken c.operands-operands.result.now c.args.frame.now.activation.stack c.args.count c.operands-operands.ensures c.requires
