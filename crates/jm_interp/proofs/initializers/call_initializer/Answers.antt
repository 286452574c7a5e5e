use Rattle.jm_linked.proofs.BuiltInNumbers.{names_built_in}
use Rattle.jm_interp.proofs.ClassInitializers.{initializer_begins, initializer_frame}
use Rattle.jm_interp.proofs.Initialized.{too_deep, not_begun}
use Rattle.jm_interp.proofs.OnThread.{within, read}
use Rattle.jm_interp.proofs.initializers.call_initializer.Goals as goal

pub returns-then-len-ge512-clause-does : goal.returns-then-len-ge512-clause-does
returns-then-len-ge512-clause-does g c found code is =
    too_deep c.requires.2 _ (initializer_frame found code) c.index.ensures c.len.ensures c.if-len-ge512.true
    (names_built_in c.args.at.linked.now.program c.number.result _ c.number.ensures.named) c.throw.ensures.does

pub index_mut-requires : goal.index_mut-requires
index_mut-requires g c = within c.requires.2

pub begin_above-requires : goal.begin_above-requires
begin_above-requires g c = (_, _, _, read c.requires.2 c.index_mut.ensures.value)

pub returns-in-Ok-begin_above-clause-does : goal.returns-in-Ok-begin_above-clause-does
returns-in-Ok-begin_above-clause-does g c found code is =
    initializer_begins c.requires.2 is c.index.ensures c.len.ensures c.if-len-ge512.false (c.in-Ok.ensures is.method is.method_is)
    (c.in-Ok-begin_above.ensures _ _ _ (read c.requires.2 c.index_mut.ensures.value))

pub returns-in-Err-clause-does : goal.returns-in-Err-clause-does
returns-in-Err-clause-does g c found code is =
    not_begun c.requires.2 _ (initializer_frame found code) c.index.ensures c.len.ensures
    (c.in-Err.ensures _ _ _ (read c.requires.2 c.index_mut.ensures.value))
