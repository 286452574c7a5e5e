use Rattle.std.proofs.Common.{sym, ◌∙◌}
use Rattle.jm_interp.proofs.FrameDropped.{monitor_here, not_locked}
use Rattle.jm_interp.proofs.OnThread.{within}
use Rattle.jm_interp.proofs.unwinding.drop_method.Goals as goal

pub index-requires : goal.index-requires
index-requires g c = within c.requires.0.on

pub drop_synchronized-requires-clause-on : goal.drop_synchronized-requires-clause-on
drop_synchronized-requires-clause-on g c =
    (c.requires.0, sym (monitor_here c.requires.0 c.index.ensures c.monitor_on_top.ensures) ∙ c.in-Some.is)

pub returns-clause-does : goal.returns-clause-does
returns-clause-does g c = not_locked c.requires.0 (monitor_here c.requires.0 c.index.ensures c.monitor_on_top.ensures) c.in_default.is c.drop_frame.ensures.does
