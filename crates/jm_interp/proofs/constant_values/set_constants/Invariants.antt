-- The fields so far have their constants, and the heap is as it was.
use Rattle.std.proofs.Common.{◌≡◌}
use Rattle.jm_interp.proofs.ConstantValues.{GivenFirst}
use Rattle.jm_interp.proofs.constant_values.set_constants.Given as goal

abbrev pub invariant-loop-index : goal.invariant-loop-index
invariant-loop-index g l = GivenFirst g.H.Heap.content l.fn.at l.fn.state l.fn.class l.index l.state × (l.state.heap ≡ l.fn.state.heap)
