use Rattle.std.proofs.Common.{◌≡◌, drop}
use Rattle.jm_frames.specs.FrameView.{with_stack}
use Rattle.jm_frames.proofs.frame.Frame.drop_operands.Given as goal

abbrev pub invariant-loop-popped : goal.invariant-loop-popped
invariant-loop-popped l = l.self ≡ with_stack l.initial.self (drop l._popped l.initial.self.activation.stack)
