use Rattle.jm_interp.proofs.Initialized.{staged}
use Rattle.jm_interp.proofs.OnThread.{within, read}
use Rattle.jm_interp.proofs.initialization.to_initializer.Goals as goal

pub index_mut-requires : goal.index_mut-requires
index_mut-requires g c = within c.requires.2

pub go_to_stage-requires : goal.go_to_stage-requires
go_to_stage-requires g c = (_, _, _, read c.requires.2 c.index_mut.ensures.value)

pub returns-clause-does : goal.returns-clause-does
returns-clause-does g c = staged c.requires.2 (c.go_to_stage.ensures _ _ _ (read c.requires.2 c.index_mut.ensures.value))
