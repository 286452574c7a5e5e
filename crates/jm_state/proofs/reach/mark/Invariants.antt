use Rattle.std.proofs.Common.{◌+◌, ◌-◌, length}
use Rattle.jm_values.proofs.Marking.{Frontier}
use Rattle.jm_state.proofs.reach.mark.Given as goal

abbrev pub invariant-loop-place : goal.invariant-loop-place
invariant-loop-place g l = Frontier (g.H.Heap.content l.heap) l.roots l.seen.keys l.pending.items

abbrev pub decreases-loop-place : goal.decreases-loop-place
decreases-loop-place g l = (g.H.Heap.content l.heap).next - length l.seen.keys + length l.pending.items
