use Rattle.std.proofs.Common.{take}
use Rattle.std.specs.Prelude.{map}
use Rattle.jm_values.specs.Content.{name_of}
use Rattle.jm_values.specs.Marking.{MarkedAll}
use Rattle.jm_state.proofs.reach.mark_places.Given as goal

abbrev pub invariant-loop-place : goal.invariant-loop-place
invariant-loop-place g l =
    let heap = g.H.Heap.content l.heap in
    MarkedAll heap (map (name_of heap) (take l.place-index l.places)) l.initial.seen.keys l.initial.pending.items l.seen.keys l.pending.items
