use Rattle.jm_interp.proofs.Initialized.{leaves}
use Rattle.jm_interp.proofs.OnThread.{within, read}
use Rattle.jm_interp.proofs.frames.leave_frame.Goals as goal

pub index_mut-requires : goal.index_mut-requires
index_mut-requires g c = within c.requires.on

pub returns-clause-does : goal.returns-clause-does
returns-clause-does g c = leaves c.requires.on (c.drop_top.ensures _ _ (read c.requires.on c.index_mut.ensures.value))
