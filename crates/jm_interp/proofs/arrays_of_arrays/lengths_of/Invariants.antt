-- The lengths of the first so many.
use Rattle.std.proofs.Common.{◌≡◌, drop}
use Rattle.jm_interp.specs.ArraysOfArrays.{lengths_in}
use Rattle.jm_interp.proofs.ArraysOfArrays.{behind}
use Rattle.jm_interp.proofs.arrays_of_arrays.lengths_of.Given as goal

abbrev pub invariant-loop-count : goal.invariant-loop-count
invariant-loop-count l = lengths_in l.counts ≡ behind l.lengths.items (lengths_in (drop l.count-index l.counts))
