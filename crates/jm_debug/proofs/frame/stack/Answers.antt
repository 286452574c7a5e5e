-- What was written is what is shown.
use Rattle.jm_debug.proofs.Shown.{no_stack, stack_shown}
use Rattle.jm_debug.proofs.frame.stack.Goals as goal

pub returns-in_default : goal.returns-in_default
returns-in_default g c = λ w m. no_stack w c.args.thread c.args.frame (c.in_default.ensures.frame w m)

pub returns : goal.returns
returns g c = λ w m. stack_shown w c.args.thread c.args.frame _ _ (c.in-Some.ensures.frame w m) c.in_ok-stack_of_frame.ensures
