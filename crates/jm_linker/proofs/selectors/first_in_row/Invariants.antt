-- The first so far leads the others.
use Rattle.std.proofs.Common.{◌+◌, ◌≤◌}
use Rattle.jm_linker.specs.Selectors.{Leads}
use Rattle.jm_linker.proofs.selectors.first_in_row.Given as goal

abbrev pub invariant-loop-first : goal.invariant-loop-first
invariant-loop-first l = (l.first ≤ l.last) × Leads l.methods l.first (l.last + 1)

abbrev pub decreases-loop-first : goal.decreases-loop-first
decreases-loop-first l = l.first
