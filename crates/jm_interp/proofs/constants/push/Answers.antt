use Rattle.jm_interp.proofs.PushRow.{push_goes, push_faults}
use Rattle.jm_interp.proofs.constants.push.Goals as goal

pub returns-in-Ok-clause-does : goal.returns-in-Ok-clause-does
returns-in-Ok-clause-does g c = push_goes c.requires.here.0 c.args.value c.index_mut.ensures.value c.requires.held c.in-Ok.ensures

pub returns-in-Err-clause-does : goal.returns-in-Err-clause-does
returns-in-Err-clause-does g c = push_faults c.requires.here.0 c.args.value c.index_mut.ensures.value c.in-Err.ensures
