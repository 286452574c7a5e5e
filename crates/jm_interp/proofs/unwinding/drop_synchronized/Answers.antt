use Rattle.std.proofs.Common.{◌+◌, drop, refl, sym, ap}
use Rattle.std.specs.Prelude.{codes}
use Rattle.jm_linked.proofs.BuiltInNumbers.{names_built_in}
use Rattle.jm_world.specs.Throwing.{unwound}
use Rattle.jm_world.specs.Types.{instance_of}
use Rattle.jm_world.specs.World.{ended_by}
use Rattle.jm_interp.proofs.After.{frames_after, dropped_anew, not_thrown}
use Rattle.jm_interp.proofs.FrameDropped.{monitor_lies, not_owned, frames_then, dropped_then}
use Rattle.jm_interp.proofs.OnThread.{model, numbered}
use Rattle.jm_interp.proofs.NewPlaces.{made_then_same}
use Rattle.jm_interp.proofs.unwinding.drop_synchronized.Goals as goal

pub owns-requires-clause-numbered : goal.owns-requires-clause-numbered
owns-requires-clause-numbered g c = numbered c.requires.on.0.on

pub owns-requires-clause-lies : goal.owns-requires-clause-lies
owns-requires-clause-lies g c = monitor_lies c.requires.on.0 (sym c.requires.on.1)

pub leave-left-requires-clause-numbered : goal.leave-left-requires-clause-numbered
leave-left-requires-clause-numbered g c = numbered c.requires.on.0.on

pub leave-left-requires-clause-lies : goal.leave-left-requires-clause-lies
leave-left-requires-clause-lies g c = monitor_lies c.requires.on.0 (sym c.requires.on.1)

pub drop_frame-requires : goal.drop_frame-requires
drop_frame-requires g c = (
  frames_then c.requires.on.0 (sym c.requires.on.1) c.owns.ensures c.if-owns.true c.leave-left.result _ c.leave-left.ensures.runs c.leave-left.ensures.left,
  c.requires.ends,
)

pub returns-then-owns-clause-does : goal.returns-then-owns-clause-does
returns-then-owns-clause-does g c =
    dropped_then c.requires.on.0 (sym c.requires.on.1) c.owns.ensures c.if-owns.true c.leave-left.result _ c.leave-left.ensures.runs c.leave-left.ensures.left
    c.drop_frame.ensures.does

pub drop_frame-requires-in-Ok : goal.drop_frame-requires-in-Ok
drop_frame-requires-in-Ok g c =
    let named = names_built_in c.args.at.linked.now.program c.number-error.result _ c.number-error.ensures.named in
    (frames_after c.requires.on.0 _ named c.in-Ok.ensures.does, refl)

pub returns-in-Ok-clause-does : goal.returns-in-Ok-clause-does
returns-in-Ok-clause-does g c =
    let named = names_built_in c.args.at.linked.now.program c.number-error.result _ c.number-error.ensures.named in
    not_owned c.requires.on.0 (sym c.requires.on.1) c.owns.ensures c.if-owns.false
    (dropped_anew c.requires.on.0 _ named c.in-Ok.ensures.does (ap ended_by named) c.drop_frame-in-Ok.ensures.does)

pub returns-in-Err-clause-does : goal.returns-in-Err-clause-does
returns-in-Err-clause-does g c =
    let named = names_built_in c.args.at.linked.now.program c.number-error.result _ c.number-error.ensures.named in
    let h = c.requires.on.0 in
    not_owned h (sym c.requires.on.1) c.owns.ensures c.if-owns.false
    (not_thrown h (codes "java/lang/IllegalMonitorStateException") named c.in-Err.ensures.does
    (λ w made k. unwound (record w { heap = made.heap }) (c.args.at.index + 1) (model h.on) (drop 1 (model h.on).frames) k
    (instance_of (codes "java/lang/IllegalMonitorStateException"))) (λ w m. refl))

pub returns-in-Ok-clause-nursery : goal.returns-in-Ok-clause-nursery
returns-in-Ok-clause-nursery g c = made_then_same g.H.Heap.content _ _ _ _ c.in-Ok.ensures.nursery c.drop_frame-in-Ok.ensures.heap
