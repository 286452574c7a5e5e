use Rattle.jm_interp.proofs.After.{frames_failed, failed_below}
use Rattle.jm_interp.proofs.unwinding.fail.Goals as goal

pub mark_failed-requires : goal.mark_failed-requires
mark_failed-requires g c = (c.requires.0, c.requires.1)

pub drop_frame-requires : goal.drop_frame-requires
drop_frame-requires g c = (frames_failed c.requires.0 c.mark_failed.ensures.does, c.requires.2)

pub returns-clause-does : goal.returns-clause-does
returns-clause-does g c = failed_below c.requires.0 c.mark_failed.ensures.does c.drop_frame.ensures.does
