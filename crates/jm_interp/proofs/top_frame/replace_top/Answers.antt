use Rattle.std.proofs.Common.{◌≡◌, ◌≤◌, ◌∷◌, ◌∙◌, refl, sym, subst, drop}
use Rattle.jm_frames.specs.FrameView.{FrameView}
use Rattle.jm_values.specs.Activation.{units}
use Rattle.jm_state.specs.declared.thread.StackFrame.TheVariants.{Method}
use Rattle.jm_interp.proofs.TopFrames.{last_is, moved_off, popped_to}
use Rattle.jm_interp.proofs.top_frame.replace_top.Goals as goal

pub replace-requires : goal.replace-requires
replace-requires c =
    let t = c.requires in
    let is : Method c.in-Method.frame ≡ Method t.0 =
    sym c.in-Method.is ∙ last_is c.args.thread.now (Method t.0) c.in-Some.top.now t.1 t.2 t.3 c.in-Some.ensures.value in
    let same : t.0 ≡ c.in-Method.frame = cc in
    subst (λ (x : FrameView). units (c.args.value ∷ drop c.args.count x.activation.stack) ≤ x.activation.max_stack) same t.5

pub returns : goal.returns
returns c f below r s =
    let v = c.in-Method.frame in
    let left = c.args.value ∷ drop c.args.count v.activation.stack in
    popped_to c.args.thread.now _ f v c.go_on.new.self (λ s. c.args.value ∷ drop c.args.count s) below r c.in-Some.top.now s
    (last_is c.args.thread.now (Method f) c.in-Some.top.now below r s c.in-Some.ensures.value) c.in-Method.is
    (moved_off v c.replace.new.self c.go_on.new.self left c.replace.ensures c.go_on.ensures) refl refl
