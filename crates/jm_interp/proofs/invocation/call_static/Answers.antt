use Rattle.jm_interp.proofs.OnThread.{read}
use Rattle.jm_interp.proofs.StaticCalls.{may_call, called, faults}
use Rattle.jm_interp.proofs.invocation.call_static.Goals as goal

pub call-requires : goal.call-requires
call-requires g c =
    may_call c.requires c.in-Some-parameters_of.ensures (c.top_method.ensures _ _ _ (read c.requires.on c.index.ensures)) c.in-Ok.ensures

pub returns-in-Ok-clause-does : goal.returns-in-Ok-clause-does
returns-in-Ok-clause-does g c found is =
    called c.requires c.in-Some-parameters_of.ensures (c.top_method.ensures _ _ _ (read c.requires.on c.index.ensures)) c.in-Some.ensures is
    c.in-Ok.ensures c.call.ensures.does

pub returns-in-Err-clause-does : goal.returns-in-Err-clause-does
returns-in-Err-clause-does g c found is =
    faults c.requires c.in-Some-parameters_of.ensures (c.top_method.ensures _ _ _ (read c.requires.on c.index.ensures)) c.in-Some.ensures is
    c.in-Err.ensures
