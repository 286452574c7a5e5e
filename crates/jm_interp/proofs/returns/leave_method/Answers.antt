use Rattle.std.proofs.Common.{sym, ◌∙◌}
use Rattle.jm_interp.proofs.OnThread.{within, read}
use Rattle.jm_interp.proofs.MethodLeft.{monitor_here, not_locked}
use Rattle.jm_interp.proofs.returns.leave_method.Goals as goal

pub index-requires : goal.index-requires
index-requires g c = within c.requires.here.on

pub top_method-requires : goal.top_method-requires
top_method-requires g c = (_, _, _, read c.requires.here.on c.index.ensures)

pub leave_synchronized-requires-clause-here : goal.leave_synchronized-requires-clause-here
leave_synchronized-requires-clause-here g c =
    let here = monitor_here c.requires.here c.index.ensures c.top_method.ensures c.monitor.ensures in (c.requires.here, sym here ∙ c.in-Some.is)

pub returns-in-Ok-clause-steps : goal.returns-in-Ok-clause-steps
returns-in-Ok-clause-steps g c =
    let here = monitor_here c.requires.here c.index.ensures c.top_method.ensures c.monitor.ensures in
    not_locked c.requires.here here c.requires.hands c.in_default.is c.in-Ok.ensures.hands

pub returns-in-Err-clause-steps : goal.returns-in-Err-clause-steps
returns-in-Err-clause-steps g c =
    let here = monitor_here c.requires.here c.index.ensures c.top_method.ensures c.monitor.ensures in
    not_locked c.requires.here here c.requires.hands c.in_default.is c.in-Err.ensures.hands
