use Rattle.std.proofs.Common.{refl, arith}
use Rattle.jm_interp.proofs.Initialized.{class_within, own, in_progress}
use Rattle.jm_interp.proofs.OnThread.{within, numbered, read}
use Rattle.jm_interp.proofs.initialization.put_in_progress.Goals as goal

pub begin-requires : goal.begin-requires
begin-requires g c = class_within c.requires.1 c.args.class (own c.requires.1)

pub index_mut-requires : goal.index_mut-requires
index_mut-requires g c = within c.requires.1

pub overflow_add-at : goal.overflow_add-at
overflow_add-at g c = omega (arith, numbered c.requires.1)

pub go_to_stage-requires : goal.go_to_stage-requires
go_to_stage-requires g c = (_, _, _, read c.requires.1 c.index_mut.ensures.value)

pub returns-clause-does : goal.returns-clause-does
returns-clause-does g c =
    in_progress c.requires.1 (record { threads = refl; started = refl; statics = refl; literals = refl; monitors = refl; heap = refl; stop = refl })
    c.begin.ensures refl refl
    (c.go_to_stage.ensures _ _ _ (read c.requires.1 c.index_mut.ensures.value))
