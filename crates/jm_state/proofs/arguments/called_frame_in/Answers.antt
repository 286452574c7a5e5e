-- One more argument has its local variables.
use Rattle.std.proofs.Common.{arith, refl}
use Rattle.std.proofs.lemmas.Option.{slice_get_read}
use Rattle.std.specs.Prelude.{length}
use Rattle.jm_state.proofs.Locals.{none_handed, next_within, next_fits, one_handed}
use Rattle.jm_state.proofs.arguments.called_frame_in.Goals as goal

pub loop-argument-init : goal.loop-argument-init
loop-argument-init c = none_handed c.args.callee c.args.arguments.now c.in_ok-frame.frame c.in_ok-frame.ensures

pub set_local-requires : goal.set_local-requires
set_local-requires c =
    let i = c.loop-argument.argument-index in
    let list = c.args.arguments.now in
    next_within c.args.callee list i c.loop-argument.local c.loop-argument.frame c.argument-item.result c.requires c.loop-argument.invariant
    (slice_get_read list (length list) i c.argument-item.result refl (omega arith) c.argument-item.is)

pub overflow_add-local : goal.overflow_add-local
overflow_add-local c =
    let i = c.loop-argument.argument-index in
    let list = c.args.arguments.now in
    let fits = next_fits c.args.callee list i c.loop-argument.local c.loop-argument.frame c.argument-item.result c.requires c.loop-argument.invariant
    (slice_get_read list (length list) i c.argument-item.result refl (omega arith) c.argument-item.is) in
    let size = c.category-local.ensures in
    omega arith

pub loop-argument-preserved : goal.loop-argument-preserved
loop-argument-preserved c =
    let i = c.loop-argument.argument-index in
    let list = c.args.arguments.now in
    rw c.category-local.ensures
    (one_handed c.args.callee list i c.loop-argument.local c.loop-argument.frame c.set_local.new.self c.argument-item.result c.requires c.loop-argument.invariant
    (slice_get_read list (length list) i c.argument-item.result refl (omega arith) c.argument-item.is) c.set_local.ensures)
