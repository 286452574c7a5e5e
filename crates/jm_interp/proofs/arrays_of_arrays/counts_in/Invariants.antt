-- So many from the top were read.
use Rattle.std.proofs.Common.{◌≡◌, ◌+◌, ◌<◌, ◌≤◌, ℕ, [], drop, reverse}
use Rattle.jm_values.specs.Activation.{units}
use Rattle.jm_interp.specs.ArraysOfArrays.{counts_of}
use Rattle.jm_interp.proofs.arrays_of_arrays.counts_in.Given as goal

abbrev pub invariant-loop-depth : goal.invariant-loop-depth
invariant-loop-depth l =
    (left : ℕ)
    × (l.depth + left ≡ l.dimensions)
    × (counts_of l.dimensions [] l.frame.activation.stack ≡ counts_of left (reverse l.counts.items) (drop l.depth l.frame.activation.stack))
    × (0 < l.depth → units l.frame.activation.stack ≤ l.frame.activation.max_stack)
