use Rattle.std.proofs.Common.{refl, ap, length, arith}
use Rattle.jm_linked.proofs.BuiltInNumbers.{names_built_in}
use Rattle.jm_interp.proofs.OnThread.{within, read}
use Rattle.jm_interp.proofs.ReadyClasses.{too_deep, begun, not_begun}
use Rattle.jm_interp.proofs.readiness.begin_initialization.Goals as goal

pub returns-then-len-ge512-clause-does : goal.returns-then-len-ge512-clause-does
returns-then-len-ge512-clause-does g c =
    too_deep c.requires.here (c.requires.own.0, c.requires.own.1) refl c.requires.own.2 c.index.ensures c.len.ensures c.if-len-ge512.true
    (names_built_in c.args.at.linked.now.program c.number.result _ c.number.ensures.named) c.throw.ensures.does

pub index_mut-requires : goal.index_mut-requires
index_mut-requires g c = within c.requires.here.on

pub returns-in-Ok-clause-does : goal.returns-in-Ok-clause-does
returns-in-Ok-clause-does g c =
    let n = ap length c.built_ins.ensures in
    let many = c.requires.own.2 in
    begun c.requires.here (c.requires.own.0, c.requires.own.1) n (omega (arith, n)) c.index.ensures c.len.ensures
    c.if-len-ge512.false (c.in-Ok.ensures _ _ (read c.requires.here.on c.index_mut.ensures.value))

pub returns-in-Err-clause-does : goal.returns-in-Err-clause-does
returns-in-Err-clause-does g c =
    let n = ap length c.built_ins.ensures in
    let many = c.requires.own.2 in
    not_begun c.requires.here (c.requires.own.0, c.requires.own.1) n (omega (arith, n)) c.index.ensures c.len.ensures
    (c.in-Err.ensures _ _ (read c.requires.here.on c.index_mut.ensures.value))
