-- What is still to be found is below the node that was found.
use Rattle.std.proofs.Common.{◌≡◌, ◌≤◌}
use Rattle.jm_tables.specs.Nodes.{found_from}
use Rattle.jm_tables.proofs.node.find.Given as goal

abbrev pub invariant-loop-level : goal.invariant-loop-level
invariant-loop-level l = (l.level ≤ l.levels) × (found_from l.nodes l.levels l.root l.column ≡ found_from l.nodes l.level l.found l.column)

abbrev pub decreases-loop-level : goal.decreases-loop-level
decreases-loop-level l = l.level
