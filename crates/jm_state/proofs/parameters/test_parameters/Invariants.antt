-- So many operands are of their types.
use Rattle.jm_state.proofs.Tested.{types_of}
use Rattle.jm_state.proofs.Popping.{Popped}
use Rattle.jm_state.proofs.parameters.test_parameters.Given as goal

abbrev pub invariant-loop-depth : goal.invariant-loop-depth
invariant-loop-depth l = Popped (types_of l.parameters) l.frame.activation.stack l.depth
