use Rattle.jm_interp.proofs.InstanceCalls.{may_call, steps}
use Rattle.jm_interp.proofs.instance_calls.call_code.Goals as goal

pub call-requires : goal.call-requires
call-requires g c = may_call c.requires.2 c.requires.3 c.requires.4 c.in-Some.ensures (c.monitor_of-monitor.ensures _ c.in-Some.ensures)

pub returns-clause-steps : goal.returns-clause-steps
returns-clause-steps g c = steps c.requires.2 c.requires.3 c.requires.4 c.in-Some.ensures (c.monitor_of-monitor.ensures _ c.in-Some.ensures) c.call.ensures.does
