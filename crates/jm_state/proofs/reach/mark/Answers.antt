use Rattle.std.proofs.Common.{arith}
use Rattle.jm_program.proofs.Sequences.{none_left}
use Rattle.jm_values.proofs.Marking.{last_ready, first_frontier, next_frontier, frontier_is_reach, less_is_left}
use Rattle.jm_state.proofs.reach.mark.Goals as goal

pub loop-place-init : goal.loop-place-init
loop-place-init g c =
    let marked = rw (c.new-seen.ensures.empty, c.new-pending.ensures.items) at c.in_ok-mark_places.ensures in first_frontier c.requires.sound marked

pub mark_object-requires-clause-there : goal.mark_object-requires-clause-there
mark_object-requires-clause-there g c = let here = rw c.in-Some.ensures.items at c.loop-place.invariant in (last_ready _ c.in-Some.place here).1

pub loop-place-preserved : goal.loop-place-preserved
loop-place-preserved g c =
    let here = rw c.in-Some.ensures.items at c.loop-place.invariant in next_frontier c.requires.sound c.in-Some.place here c.in_ok-mark_object.ensures

pub loop-place-smaller : goal.loop-place-smaller
loop-place-smaller g c =
    let here = rw c.in-Some.ensures.items at c.loop-place.invariant in
    rw c.in-Some.ensures.items (less_is_left c.requires.sound c.in-Some.place here c.in_ok-mark_object.ensures)

pub returns : goal.returns
returns g c =
    let none = none_left c.loop-place.pending.items (omega (arith, c.in_default.ensures.cases.0, c.loop-place.pending.ok.0)) in
    let here = rw none at c.loop-place.invariant in
    frontier_is_reach here
