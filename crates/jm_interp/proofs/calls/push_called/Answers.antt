use Rattle.std.proofs.Common.{◌≡◌, ◌∷◌, ◌-◌, refl, sym, ap, ◌∙◌, subst, drop}
use Rattle.std.specs.Vec.{with_item}
use Rattle.jm_frames.specs.FrameView.{FrameView, with_stack}
use Rattle.jm_state.specs.declared.thread.StackFrame.TheVariants.{Method}
use Rattle.jm_state.specs.declared.thread.Thread as held
use Rattle.jm_interp.specs.Standing.{Stands}
use Rattle.jm_interp.proofs.TopFrames.{top_more, second_frame, second_other}
use Rattle.jm_interp.proofs.calls.push_called.Goals as goal

pub returns : goal.returns
returns c f below r s =
    let t = c.args.thread.now in
    let v = c.in-Method.caller in
    let g = c.drop_operands.new.self in
    let n = c.len-number.result in
    let above = Method c.args.frame in
    let more : held.Thread = record t { frames = c.push_reserved.new.self } in
    let new : held.Thread = record t { frames = with_item c.push_reserved.new.self (n - 2) (Method g) } in
    let begun = top_more t more above (Method f ∷ below) r s c.push_reserved.ensures.items refl in
    let is : Method v ≡ Method f =
    sym c.in-Method.is ∙ second_frame more above (Method f) c.index_mut.result.now below r n begun c.len-number.ensures c.index_mut.ensures.value in
    let same : v ≡ f = cc in
    let left : g ≡ with_stack f (drop c.args.count f.activation.stack) =
    c.drop_operands.ensures ∙ ap (λ (x : FrameView). with_stack x (drop c.args.count x.activation.stack)) same in
    subst (λ x. Stands new (above ∷ Method x ∷ below) r) left
    (second_other more new above (Method f) (Method g) below r n begun c.len-number.ensures refl refl)
