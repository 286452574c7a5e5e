use Rattle.std.proofs.Common.{refl, ap, ◌+◌, drop}
use Rattle.std.specs.Prelude.{codes}
use Rattle.jm_world.specs.Throwing.{unwound}
use Rattle.jm_world.specs.Types.{instance_of}
use Rattle.jm_world.specs.World.{ended_by, with_state}
use Rattle.jm_world.specs.declared.class_state.ClassState.TheVariants.{Failed}
use Rattle.jm_state.specs.Parts.{program_class_name}
use Rattle.jm_interp.proofs.OnThread.{model}
use Rattle.jm_linked.proofs.BuiltInNumbers.{names_built_in}
use Rattle.jm_interp.proofs.After.{frames_after, failed_anew, not_thrown}
use Rattle.jm_interp.proofs.NewPlaces.{made_then_same}
use Rattle.jm_interp.proofs.unwinding.fail_anew.Goals as goal

pub fail-requires : goal.fail-requires
fail-requires g c =
    let named = names_built_in c.args.at.linked.now.program c.number-error.result _ c.number-error.ensures.named in
    (frames_after c.requires.0 _ named c.in-Ok.ensures.does, c.requires.1, refl)

pub returns-in-Ok-clause-does : goal.returns-in-Ok-clause-does
returns-in-Ok-clause-does g c =
    let named = names_built_in c.args.at.linked.now.program c.number-error.result _ c.number-error.ensures.named in
    failed_anew c.requires.0 _ named c.in-Ok.ensures.does (ap ended_by named) c.fail.ensures.does

pub returns-in-Err-clause-does : goal.returns-in-Err-clause-does
returns-in-Err-clause-does g c =
    let named = names_built_in c.args.at.linked.now.program c.number-error.result _ c.number-error.ensures.named in
    let h = c.requires.0 in
    let failed = program_class_name c.args.at.linked.now.program c.args.class in
    not_thrown h (codes "java/lang/ExceptionInInitializerError") named c.in-Err.ensures.does
    (λ w made k. unwound (record (with_state w failed Failed) { heap = made.heap }) (c.args.at.index + 1) (model h.on) (drop 1 (model h.on).frames) k
    (instance_of (codes "java/lang/ExceptionInInitializerError"))) (λ w m. refl)

pub returns-in-Ok-clause-nursery : goal.returns-in-Ok-clause-nursery
returns-in-Ok-clause-nursery g c = made_then_same g.H.Heap.content _ _ _ _ c.in-Ok.ensures.nursery c.fail.ensures.heap
