use Rattle.jm_machine.specs.Marked.{Marks}
use Rattle.jm_values.proofs.Marking.{first_names}
use Rattle.jm_machine.proofs.reached.mark_object.Given as goal

abbrev pub invariant-loop-index : goal.invariant-loop-index
invariant-loop-index g l =
    let heap = g.H.Heap.content l.heap in
    Marks heap (first_names heap l.place l.index) l.initial.seen.entries l.initial.pending.items l.seen.entries l.pending.items
