use Rattle.std.proofs.Common.{refl}
use Rattle.jm_linked.proofs.BuiltInNumbers.{names_built_in}
use Rattle.jm_interp.proofs.Initialized.{too_deep, begun, not_begun}
use Rattle.jm_interp.proofs.OnThread.{within, read}
use Rattle.jm_interp.proofs.initialization.begin_superclass.Goals as goal

pub index-requires : goal.index-requires
index-requires g c = within c.requires.2

pub throw-requires : goal.throw-requires
throw-requires g c = record { frames = _; pending = _; on = c.requires.2 }

pub returns-then-len-ge512-clause-does : goal.returns-then-len-ge512-clause-does
returns-then-len-ge512-clause-does g c =
    too_deep c.requires.2 _ _ c.index.ensures c.len.ensures c.if-len-ge512.true
    (names_built_in c.args.at.linked.now.program c.number.result _ c.number.ensures.named) c.throw.ensures.does

pub index_mut-requires : goal.index_mut-requires
index_mut-requires g c = within c.requires.2

pub begin_above-requires : goal.begin_above-requires
begin_above-requires g c = (_, _, _, read c.requires.2 c.index_mut.ensures.value)

pub returns-in-Ok-clause-does : goal.returns-in-Ok-clause-does
returns-in-Ok-clause-does g c =
    begun c.requires.2 _ _ c.index.ensures c.len.ensures c.if-len-ge512.false c.requires.3 (λ q a. a) refl
    (c.in-Ok.ensures _ _ _ (read c.requires.2 c.index_mut.ensures.value))

pub returns-in-Err-clause-does : goal.returns-in-Err-clause-does
returns-in-Err-clause-does g c =
    not_begun c.requires.2 _ _ c.index.ensures c.len.ensures (c.in-Err.ensures _ _ _ (read c.requires.2 c.index_mut.ensures.value))
