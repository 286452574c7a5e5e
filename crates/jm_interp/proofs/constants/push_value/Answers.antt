use Rattle.jm_interp.proofs.OnThread.{does_as}
use Rattle.jm_interp.proofs.PushRow.{value_held, pushed_is}
use Rattle.jm_interp.proofs.constants.push_value.Goals as goal

pub push-requires-clause-here : goal.push-requires-clause-here
push-requires-clause-here g c = (c.requires.1.method, c.requires.1.room)

pub push-requires-clause-held : goal.push-requires-clause-held
push-requires-clause-held g c = value_held c.args.value c.requires.0 c.requires.1 c.requires.2

pub returns-clause-steps : goal.returns-clause-steps
returns-clause-steps g c = does_as c.requires.1.method.on (λ w m. m) (pushed_is c.args.value c.requires.0 c.requires.1 c.requires.2) c.push.ensures.does
