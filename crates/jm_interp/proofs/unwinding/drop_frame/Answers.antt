use Rattle.jm_interp.proofs.OnThread.{within}
use Rattle.jm_interp.proofs.Unwound.{frame_left, none_left}
use Rattle.jm_interp.proofs.unwinding.drop_frame.Goals as goal

pub index-requires : goal.index-requires
index-requires g c = within c.requires.0.on

pub returns-then-len-gt1-clause-does : goal.returns-then-len-gt1-clause-does
returns-then-len-gt1-clause-does g c = frame_left c.requires.0.on c.index.ensures c.len.ensures c.if-len-gt1.true c.leave_frame.ensures.does

pub end_thread-requires : goal.end_thread-requires
end_thread-requires g c = (_, _, c.requires.0.on, c.requires.1)

pub returns-clause-does : goal.returns-clause-does
returns-clause-does g c = none_left c.requires.0.on c.index.ensures c.len.ensures c.if-len-gt1.false c.end_thread.ensures.ends
