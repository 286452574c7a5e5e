use Rattle.std.proofs.Common.{◌≡◌, [], replicate}
use Rattle.jm_barrier.proofs.remembered.no_marks.Given as goal

-- so many lanes as turns, each without a mark
abbrev pub invariant-loop-lane : goal.invariant-loop-lane
invariant-loop-lane l = l.lanes.items ≡ replicate l._lane []
