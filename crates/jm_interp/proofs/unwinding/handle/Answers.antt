use Rattle.jm_interp.proofs.OnThread.{within}
use Rattle.jm_interp.proofs.Caught.{runs_there, handled, not_handled}
use Rattle.jm_interp.proofs.unwinding.handle.Goals as goal

pub index_mut-requires : goal.index_mut-requires
index_mut-requires g c = within c.requires.on

pub catch_on_top-requires : goal.catch_on_top-requires
catch_on_top-requires g c = runs_there c.requires c.index_mut.ensures.value

pub returns-in-Ok-clause-does : goal.returns-in-Ok-clause-does
returns-in-Ok-clause-does g c = handled c.requires c.args.target c.index_mut.ensures.value c.in-Ok.ensures

pub returns-in-Err-clause-does : goal.returns-in-Err-clause-does
returns-in-Err-clause-does g c handler there = not_handled c.requires c.args.target c.index_mut.ensures.value c.in-Err.ensures handler
