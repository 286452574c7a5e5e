use Rattle.std.proofs.Common.{◌+◌, ◌-◌, length}
use Rattle.std.specs.Map.{keys_of}
use Rattle.jm_values.proofs.Marking.{Frontier}
use Rattle.jm_machine.specs.Marked.{AreAt}
use Rattle.jm_machine.proofs.reached.mark.Given as goal

abbrev pub invariant-loop-place : goal.invariant-loop-place
invariant-loop-place g l = record {
  frontier : Frontier (g.H.Heap.content l.heap) l.roots (keys_of l.seen.entries) l.pending.items;
  places : AreAt (g.H.Heap.content l.heap) l.seen.entries;
}

abbrev pub decreases-loop-place : goal.decreases-loop-place
decreases-loop-place g l = (g.H.Heap.content l.heap).next - length (keys_of l.seen.entries) + length l.pending.items
