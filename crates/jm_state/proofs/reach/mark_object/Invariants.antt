use Rattle.jm_values.specs.Marking.{MarkedAll}
use Rattle.jm_values.proofs.Marking.{first_names}
use Rattle.jm_state.proofs.reach.mark_object.Given as goal

abbrev pub invariant-loop-index : goal.invariant-loop-index
invariant-loop-index g l =
    let heap = g.H.Heap.content l.heap in
    MarkedAll heap (first_names heap l.place l.index) l.initial.seen.keys l.initial.pending.items l.seen.keys l.pending.items
