use Rattle.std.proofs.Common.{◌+◌, refl, sym, ap, ◌∙◌, drop}
use Rattle.jm_frames.specs.FrameView.{FrameView, with_stack, gone_to}
use Rattle.jm_state.specs.declared.thread.StackFrame.TheVariants.{Method}
use Rattle.jm_interp.specs.Printing.{left_by}
use Rattle.jm_interp.proofs.TopFrames.{last_is, popped_to, moved_off, two_left}
use Rattle.jm_interp.proofs.print_operands.pop_operands.Goals as goal

pub returns-in-EndLine : goal.returns-in-EndLine
returns-in-EndLine c f below r s =
    let t = c.args.thread.now in
    let v = c.in-Method.frame in
    let is = last_is t (Method f) c.in-Some.top.now below r s c.in-Some.ensures.value in
    let moved = moved_off v c.pop-receiver.new.self c.go_on.new.self (drop 1 v.activation.stack) c.pop-receiver.ensures.frame c.go_on.ensures in
    popped_to t _ f v c.go_on.new.self (left_by c.args.method) below r c.in-Some.top.now s is c.in-Method.is
    (moved ∙ ap (λ m. gone_to (with_stack v (left_by m v.activation.stack)) (v.activation.at + 1)) (sym c.in-EndLine.is)) refl refl

pub returns-in_default-method : goal.returns-in_default-method
returns-in_default-method c f below r s =
    let t = c.args.thread.now in
    let v = c.in-Method.frame in
    let m = c.pop-argument.new.self in
    let is = last_is t (Method f) c.in-Some.top.now below r s c.in-Some.ensures.value in
    let both = c.pop-receiver-in_default-method.ensures.frame ∙ ap (λ (x : FrameView). with_stack x (drop 1 x.activation.stack)) c.pop-argument.ensures.frame in
    let moved =
    moved_off v c.pop-receiver-in_default-method.new.self c.go_on-in_default-method.new.self
    (drop 1 (drop 1 v.activation.stack)) both c.go_on-in_default-method.ensures in
    popped_to t _ f v c.go_on-in_default-method.new.self (left_by c.args.method) below r c.in-Some.top.now s is c.in-Method.is (moved ∙ ap
    (λ x. gone_to (with_stack v x) (v.activation.at + 1)) (sym (two_left c.args.method v.activation.stack c.in_default-method.not-EndLine))) refl refl
