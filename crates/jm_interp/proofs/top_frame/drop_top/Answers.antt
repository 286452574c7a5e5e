use Rattle.std.proofs.Common.{refl, drop}
use Rattle.jm_state.specs.declared.thread.StackFrame.TheVariants.{Method}
use Rattle.jm_interp.proofs.TopFrames.{last_is, moved_off, popped_to}
use Rattle.jm_interp.proofs.top_frame.drop_top.Goals as goal

pub returns : goal.returns
returns c f below r s =
    let v = c.in-Method.frame in
    popped_to c.args.thread.now _ f v c.go_on.new.self (λ s. drop c.args.count s) below r c.in-Some.top.now s
    (last_is c.args.thread.now (Method f) c.in-Some.top.now below r s c.in-Some.ensures.value) c.in-Method.is
    (moved_off v c.drop_operands.new.self c.go_on.new.self (drop c.args.count v.activation.stack) c.drop_operands.ensures c.go_on.ensures) refl refl
