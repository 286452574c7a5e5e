use Rattle.jm_values.proofs.Marking.{marked_next, among_at}
use Rattle.jm_machine.proofs.reached.mark_places.Goals as goal

pub mark_place-requires : goal.mark_place-requires
mark_place-requires g c =
    c.requires c.place-item.result (among_at c.args.places.now c.loop-place.place-index c.place-item.result c.loop-place-test.true c.place-item.is)

pub loop-place-preserved : goal.loop-place-preserved
loop-place-preserved g c =
    let before = c.loop-place.invariant in
    let one = c.in_ok-mark_place.ensures in
    record {
      marked = marked_next c.args.places.now c.loop-place.place-index c.place-item.result c.loop-place-test.true c.place-item.is before.marked one.marked;
      places = λ all. one.places (before.places all);
    }
