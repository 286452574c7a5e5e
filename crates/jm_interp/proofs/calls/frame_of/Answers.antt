use Rattle.std.proofs.Common.{◌≡◌, ap, rules, ◌∙◌}
use Rattle.std.proofs.lemmas.Option.{get_or_from_slice_get}
use Rattle.jm_state.specs.Arguments.{beginning, on_top}
use Rattle.jm_frames.specs.FrameView.{FrameView}
use Rattle.jm_interp.specs.Calls.{callee_with}
use Rattle.jm_interp.proofs.calls.frame_of.Goals as goal

pub returns-clause-frame : goal.returns-clause-frame
returns-clause-frame c m there f below r s =
    let top : c.top_method.result.now ≡ f = c.top_method.ensures f below r (c.take_spare-spare.ensures _ r s) in
    let on : c.arguments_on.result.now ≡ on_top c.args.count f.activation.stack =
    c.arguments_on.ensures ∙ ap (λ (v : FrameView). on_top c.args.count v.activation.stack) top in
    let its : c.index-methods-method.result ≡ m = cc (get_or_from_slice_get c.args.at.linked.now.methods c.args.method m c.index-methods-method.result there) in
    c.in_ok-frame.ensures ∙ (λ i. beginning (callee_with c.args.method (its i) c.args.monitor) (on i))

pub returns-in_err-reserve-clause-stays : goal.returns-in_err-reserve-clause-stays
returns-in_err-reserve-clause-stays c fs r s = let kept = c.take_spare-spare.ensures fs r s in search rules
