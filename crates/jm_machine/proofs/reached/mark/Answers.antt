use Rattle.std.proofs.Common.{arith}
use Rattle.jm_program.proofs.Sequences.{none_left}
use Rattle.jm_values.proofs.Marking.{last_ready, first_frontier, next_frontier, frontier_is_reach, less_is_left}
use Rattle.jm_machine.proofs.reached.mark.Goals as goal

pub loop-place-init : goal.loop-place-init
loop-place-init g c =
    let marks = rw (c.new-seen.ensures.empty, c.new-pending.ensures.items) at c.in_ok-mark_places.ensures in
    record { frontier = first_frontier c.requires.sound marks.marked; places = marks.places tt }

pub mark_object-requires-clause-there : goal.mark_object-requires-clause-there
mark_object-requires-clause-there g c =
    let here = rw c.in-Some.ensures.items at c.loop-place.invariant.frontier in (last_ready _ c.in-Some.place here).1

pub loop-place-preserved : goal.loop-place-preserved
loop-place-preserved g c =
    let here = rw c.in-Some.ensures.items at c.loop-place.invariant.frontier in
    let marks = c.in_ok-mark_object.ensures in
    record {
      frontier = next_frontier c.requires.sound c.in-Some.place here marks.marked;
      places = marks.places c.loop-place.invariant.places;
    }

pub loop-place-smaller : goal.loop-place-smaller
loop-place-smaller g c =
    let here = rw c.in-Some.ensures.items at c.loop-place.invariant.frontier in
    rw c.in-Some.ensures.items (less_is_left c.requires.sound c.in-Some.place here c.in_ok-mark_object.ensures.marked)

pub returns : goal.returns
returns g c =
    let none = none_left c.loop-place.pending.items (omega (arith, c.in_default.ensures.cases.0, c.loop-place.pending.ok.0)) in
    let here = rw none at c.loop-place.invariant.frontier in
    record { serials = frontier_is_reach here; places = c.loop-place.invariant.places }
