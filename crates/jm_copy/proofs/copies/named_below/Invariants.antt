use Rattle.std.proofs.Common.{◌≤◌}
use Rattle.jm_heap.specs.Elements.{elements}
use Rattle.jm_copy.specs.Naming.{NoneNamed}
use Rattle.jm_copy.proofs.copies.named_below.Given as goal

abbrev pub invariant-loop-number : goal.invariant-loop-number
invariant-loop-number l = record {
  from_on : l.first ≤ l.number;
  none : NoneNamed (elements l.values) l.first l.number;
}
