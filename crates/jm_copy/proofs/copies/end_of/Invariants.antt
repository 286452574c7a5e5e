use Rattle.std.proofs.Common.{◌≤◌, length}
use Rattle.jm_heap.specs.Elements.{elements}
use Rattle.jm_copy.specs.Naming.{NoneNamed}
use Rattle.jm_copy.proofs.copies.end_of.Given as goal

abbrev pub invariant-loop-end : goal.invariant-loop-end
invariant-loop-end l = record {
  within : l.end ≤ length (elements l.values);
  none : NoneNamed (elements l.values) l.end (length (elements l.values));
}

abbrev pub decreases-loop-end : goal.decreases-loop-end
decreases-loop-end l = l.end
