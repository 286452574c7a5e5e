use Rattle.jm_interp.proofs.SpecialRows.{calls_declared, invokes}
use Rattle.jm_interp.proofs.special_calls.invoke_special.Goals as goal

pub receiver_of-requires : goal.receiver_of-requires
receiver_of-requires g c = (_, invokes c.requires)

pub call_declared-requires : goal.call_declared-requires
call_declared-requires g c = calls_declared c.requires (c.in-Ok.ensures _ (invokes c.requires))

pub refuse-requires-clause-refused : goal.refuse-requires-clause-refused
refuse-requires-clause-refused g c = c.in-Err.ensures _ (invokes c.requires)
