-- So many operands are of their types.
use Rattle.jm_state.proofs.Popping.{Popped}
use Rattle.jm_state.proofs.arguments.test_arguments.Given as goal

abbrev pub invariant-loop-depth : goal.invariant-loop-depth
invariant-loop-depth l = Popped l.parameters l.frame.activation.stack l.depth
