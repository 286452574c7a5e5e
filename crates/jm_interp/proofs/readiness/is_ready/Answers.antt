use Rattle.std.proofs.Common.{ap, length, arith, ◌+◌}
use Rattle.jm_world.specs.Here.{is_ready as ready}
use Rattle.jm_interp.proofs.OnThread.{numbered}
use Rattle.jm_interp.proofs.ReadyClasses.{built_in_ready, number_within, ready_by}
use Rattle.jm_interp.proofs.readiness.is_ready.Goals as goal

pub returns-then-class-built_in : goal.returns-then-class-built_in
returns-then-class-built_in g c =
    let n = ap length c.built_ins.ensures in built_in_ready c.requires.here (let few = c.if-class-built_in.true in omega (arith, n))

pub get-requires : goal.get-requires
get-requires g c =
    let n = ap length c.built_ins.ensures in
    number_within c.requires.here c.requires.named n c.if-class-built_in.false

pub overflow_add-result : goal.overflow_add-result
overflow_add-result g c = let n = numbered c.requires.here.on in omega arith

pub returns-in-Done : goal.returns-in-Done
returns-in-Done g c =
    ready_by c.requires.here c.requires.named (ap length c.built_ins.ensures) c.if-class-built_in.false c.get.ensures
    (ap (λ st. ready st (c.args.at.index + 1)) c.in-Done.is)

pub returns-in-InProgress : goal.returns-in-InProgress
returns-in-InProgress g c =
    ready_by c.requires.here c.requires.named (ap length c.built_ins.ensures) c.if-class-built_in.false c.get.ensures
    (ap (λ st. ready st (c.args.at.index + 1)) c.in-InProgress.is)

pub returns-in-NotBegun : goal.returns-in-NotBegun
returns-in-NotBegun g c =
    ready_by c.requires.here c.requires.named (ap length c.built_ins.ensures) c.if-class-built_in.false c.get.ensures
    (ap (λ st. ready st (c.args.at.index + 1)) c.in-NotBegun.is)

pub returns-in-Failed : goal.returns-in-Failed
returns-in-Failed g c =
    ready_by c.requires.here c.requires.named (ap length c.built_ins.ensures) c.if-class-built_in.false c.get.ensures
    (ap (λ st. ready st (c.args.at.index + 1)) c.in-Failed.is)
