use Rattle.std.proofs.Common.{◌∙◌, ap, [], ◌∷◌, ◌++◌}
use Rattle.jm_state.specs.declared.thread.StackFrame.TheVariants.{Method, Initialization}
use Rattle.jm_world.specs.declared.stage.Stage.TheVariants.{Begin}
use Rattle.jm_machine.proofs.FirstFrames.{method_is, frame_is}
use Rattle.jm_machine.proofs.load.make_first_frames.Goals as goal

pub returns : goal.returns
returns c = λ m e.
    let main = c.index-methods-number.result in
    let number = c.args.linked.now.main in
    let same = method_is _ c.args.linked.now.methods _ number main m c.index-methods-number.is c.methods.ensures.methods c.main-number.ensures e in
    let frame = frame_is _ number _ c.args.arguments main m _ _ c.in_ok-frame.ensures c.set_local.ensures c.main-number.ensures c.max.ensures same in
    c.push_reserved-2.ensures.items
    ∙ ap (λ xs. xs ++ Initialization main.class Begin ∷ []) (c.push_reserved.ensures.items ∙ ap (λ xs. xs ++ Method c.set_local.new.self ∷ []) c.in_ok-frames.ensures.items)
    ∙ (λ i. Method (frame i) ∷ Initialization (same i).class Begin ∷ [])
