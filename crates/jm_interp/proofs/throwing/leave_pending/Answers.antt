use Rattle.jm_interp.proofs.Thrown.{made_within, throws_made, throws_not}
use Rattle.jm_heap.specs.NewObject.{new_object}
use Rattle.jm_state.specs.Parts.{named_type}
use Rattle.jm_interp.proofs.throwing.leave_pending.Goals as goal

pub index_mut-requires : goal.index_mut-requires
unfolding new_object named_type
index_mut-requires g c = made_within c.make_object.new.state c.args.class c.requires c.in-Ok.ensures.runs _ c.in-Ok.ensures.made

pub returns-in-Ok-clause-does : goal.returns-in-Ok-clause-does
unfolding new_object named_type
returns-in-Ok-clause-does g c = throws_made c.make_object.new.state c.args.class c.requires c.in-Ok.ensures.runs _ c.in-Ok.ensures.made c.index_mut.ensures.value

pub returns-in-Err-clause-does : goal.returns-in-Err-clause-does
unfolding new_object named_type
returns-in-Err-clause-does g c = throws_not c.make_object.new.state c.args.class c.requires c.in-Err.ensures.runs c.in-Err.ensures.made
