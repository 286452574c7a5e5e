-- What was written is what is shown.
use Rattle.jm_debug.proofs.Shown.{no_locals, locals_shown}
use Rattle.jm_debug.proofs.frame.locals.Goals as goal

pub returns-in_default : goal.returns-in_default
returns-in_default g c = λ w m. no_locals w c.args.thread c.args.frame (c.in_default.ensures.frame w m)

pub returns : goal.returns
returns g c = λ w m. locals_shown w c.args.thread c.args.frame _ _ (c.in-Some.ensures.frame w m) c.in_ok-locals_of_frame.ensures
