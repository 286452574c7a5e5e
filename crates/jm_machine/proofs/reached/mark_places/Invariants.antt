use Rattle.std.proofs.Common.{take}
use Rattle.std.specs.Prelude.{map}
use Rattle.jm_values.specs.Content.{name_of}
use Rattle.jm_machine.specs.Marked.{Marks}
use Rattle.jm_machine.proofs.reached.mark_places.Given as goal

abbrev pub invariant-loop-place : goal.invariant-loop-place
invariant-loop-place g l =
    let heap = g.H.Heap.content l.heap in
    Marks heap (map (name_of heap) (take l.place-index l.places)) l.initial.seen.entries l.initial.pending.items l.seen.entries l.pending.items
