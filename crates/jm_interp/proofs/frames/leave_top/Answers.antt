use Rattle.std.proofs.Common.{◌≡◌, ◌-◌, ◌∷◌, refl, sym, ◌∙◌, subst, ap}
use Rattle.std.specs.Prelude.{Ok, Err}
use Rattle.std.specs.Vec.{with_item}
use Rattle.jm_world.specs.declared.stop.Stop.TheVariants as why
use Rattle.jm_state.specs.declared.halt.Halt.TheVariants.{Stopped}
use Rattle.jm_state.specs.declared.thread.StackFrame.TheVariants.{Method}
use Rattle.jm_state.specs.declared.thread.Thread as held
use Rattle.jm_interp.specs.Returned.{Left}
use Rattle.jm_interp.specs.Standing.{Stands}
use Rattle.jm_interp.proofs.TopFrames.{second_frame, second_other}
use Rattle.jm_interp.proofs.frames.leave_top.Goals as goal

pub returns-in-Ok : goal.returns-in-Ok
returns-in-Ok c f b below r s =
    let t = c.args.thread.now in
    let v = c.in-Method.frame in
    let n = c.len-count.result in
    let is : Method v ≡ b = sym c.in-Method.is ∙ second_frame t (Method f) b c.index_mut.result.now below r n s c.len-count.ensures c.index_mut.ensures.value in
    let g = c.take_result.new.frame in
    let t' : held.Thread = record {
      object = t.object;
      serial = t.serial;
      frames = with_item t.frames (n - 2) (Method g);
      pending = t.pending;
      ending = t.ending;
    } in
    let moved = second_other t t' (Method f) b (Method g) below r n s c.len-count.ensures refl refl in
    let gone = c.end_top.ensures _ r moved in
    let took = c.in-Ok.ensures {u = tt} in
    subst (λ x. Left (Ok (tt {0})) c.end_top.new.thread c.args.value f x below r) is
    (took.0, subst (λ x. Stands c.end_top.new.thread (Method x ∷ below) r) took.1 gone)

pub returns-in-Err : goal.returns-in-Err
returns-in-Err c f b below r s =
    let t = c.args.thread.now in
    let v = c.in-Method.frame in
    let n = c.len-count.result in
    let is : Method v ≡ b = sym c.in-Method.is ∙ second_frame t (Method f) b c.index_mut.result.now below r n s c.len-count.ensures c.index_mut.ensures.value in
    let g = c.take_result.new.frame in
    let t' : held.Thread = record {
      object = t.object;
      serial = t.serial;
      frames = with_item t.frames (n - 2) (Method g);
      pending = t.pending;
      ending = t.ending;
    } in
    let refused = c.in-Err.ensures {u = tt} in
    let same = second_other t t' (Method f) b (Method g) below r n s c.len-count.ensures refl refl in
    subst (λ x. Left (Err (Stopped (why.TagFault c.in-Err.fault))) t' c.args.value f x below r) is
    (refused.0, ap why.TagFault refused.1, subst (λ x. Stands t' (Method f ∷ Method x ∷ below) r) refused.2 same)
