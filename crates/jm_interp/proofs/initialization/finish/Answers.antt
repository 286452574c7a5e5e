use Rattle.std.proofs.Common.{refl}
use Rattle.jm_interp.proofs.Initialized.{class_within, own, finished}
use Rattle.jm_interp.proofs.OnThread.{within, read}
use Rattle.jm_interp.proofs.initialization.finish.Goals as goal

pub finish-requires : goal.finish-requires
finish-requires g c = class_within c.requires.2 c.args.class (own c.requires.2)

pub index_mut-requires : goal.index_mut-requires
index_mut-requires g c = within c.requires.2

pub returns-clause-does : goal.returns-clause-does
returns-clause-does g c =
    finished c.requires.2 (record { threads = refl; started = refl; statics = refl; literals = refl; monitors = refl; heap = refl; stop = refl })
    c.finish.ensures refl refl
    (c.drop_top.ensures _ _ (read c.requires.2 c.index_mut.ensures.value))
