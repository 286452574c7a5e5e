use Rattle.std.proofs.Common.{◌≡◌, ◌≤◌, ap, arith, length, refl, sym, subst}
use Rattle.std.proofs.lemmas.Option.{get_or_from_slice_get}
use Rattle.jm_frames.specs.FrameView.{FrameView}
use Rattle.jm_state.specs.Arguments.{on_top}
use Rattle.jm_state.proofs.Locals.{locals_same}
use Rattle.jm_world.specs.Invocation.{locals_of}
use Rattle.jm_linked.specs.declared.method.LinkedMethod.{LinkedMethod}
use Rattle.jm_interp.proofs.CallRows.{called_from, not_called, same_top}
use Rattle.jm_interp.proofs.calls.begin_on_top.Goals as goal

pub call-requires-clause-enough : goal.call-requires-clause-enough
call-requires-clause-enough c =
    let q = c.requires in
    let same = same_top c.in-Some.ensures.value c.in-Method.is q.stands in
    subst (λ (f : FrameView). c.args.count ≤ length f.activation.stack) (sym same) q.has.enough

pub call-requires-clause-fits : goal.call-requires-clause-fits
call-requires-clause-fits c =
    let q = c.requires in
    let same = same_top c.in-Some.ensures.value c.in-Method.is q.stands in
    let args = on_top c.args.count c.in-Method.frame.activation.stack in
    let its : c.index-methods-method.result ≡ q.has.method =
    cc (get_or_from_slice_get c.args.at.linked.now.methods c.args.method q.has.method c.index-methods-method.result q.has.method_is) in
    let fits = subst (λ (f : FrameView). length (locals_of (on_top c.args.count f.activation.stack)) ≤ q.has.method.max_locals) (sym same) q.has.fits in
    omega (arith, ap length (locals_same args), ap (λ (m : LinkedMethod). m.max_locals) its, fits)

pub returns-clause-begun : goal.returns-clause-begun
returns-clause-begun c = λ m there f below r s.
    let its : c.index-methods-method.result ≡ m =
    cc (get_or_from_slice_get c.args.at.linked.now.methods c.args.method m c.index-methods-method.result there) in
    called_from c.args.thread.now _ c.in-Method.frame c.call.new.self c.in-Some.ensures.value c.in-Method.is refl refl c.args.count c.args.method m
    c.index-methods-method.result c.call.result c.call.ensures.begun c.call.ensures.caller its s

pub returns-clause-stays : goal.returns-clause-stays
returns-clause-stays c = λ none.
    not_called c.args.thread.now _ c.in-Method.frame c.call.new.self c.in-Some.ensures.value c.in-Method.is refl refl c.args.count c.call.result none c.call.ensures.caller
