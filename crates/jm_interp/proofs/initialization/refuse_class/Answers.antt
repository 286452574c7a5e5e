use Rattle.std.proofs.Common.{refl, ◌+◌, drop, Some}
use Rattle.std.specs.Prelude.{codes}
use Rattle.jm_world.specs.Next.{goes}
use Rattle.jm_world.specs.World.{with_thread}
use Rattle.jm_interp.proofs.OnThread.{model}
use Rattle.jm_linked.proofs.BuiltInNumbers.{names_built_in}
use Rattle.jm_interp.proofs.After.{frames_after, thrown_below, not_thrown}
use Rattle.jm_interp.proofs.NewPlaces.{made_then_same}
use Rattle.jm_interp.proofs.initialization.refuse_class.Goals as goal

pub leave_frame-requires : goal.leave_frame-requires
leave_frame-requires g c =
    let named = names_built_in c.args.at.linked.now.program c.number.result _ c.number.ensures.named in
    frames_after c.requires _ named c.in-Ok.ensures.does

pub returns-in-Ok-clause-does : goal.returns-in-Ok-clause-does
returns-in-Ok-clause-does g c =
    let named = names_built_in c.args.at.linked.now.program c.number.result _ c.number.ensures.named in
    thrown_below c.requires _ named c.in-Ok.ensures.does c.leave_frame.ensures.does

pub returns-in-Err-clause-does : goal.returns-in-Err-clause-does
returns-in-Err-clause-does g c =
    let named = names_built_in c.args.at.linked.now.program c.number.result _ c.number.ensures.named in
    let t = record (model c.requires.on) { frames = drop 1 (model c.requires.on).frames } in
    not_thrown c.requires (codes "java/lang/NoClassDefFoundError") named c.in-Err.ensures.does
    (λ w made k. goes (with_thread made (c.args.at.index + 1) (record t { pending = Some k }))) (λ w m. refl)

pub returns-in-Ok-clause-nursery : goal.returns-in-Ok-clause-nursery
returns-in-Ok-clause-nursery g c = made_then_same g.H.Heap.content _ _ _ _ c.in-Ok.ensures.nursery c.leave_frame.ensures.heap
