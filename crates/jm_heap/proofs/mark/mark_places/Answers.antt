use Rattle.std.proofs.Common.{◌∷◌, [], arith, take}
use Rattle.jm_heap.proofs.MarkLemmas.{marked_none, marked_more, take_one_more, among_at}
use Rattle.jm_heap.proofs.mark.mark_places.Goals as goal

pub loop-place-init : goal.loop-place-init
loop-place-init c = marked_none c.args.marks.now.items c.args.pending.now.items

pub mark_place-requires : goal.mark_place-requires
mark_place-requires c =
    let inside = c.requires c.place-item.result (among_at c.args.places.now c.loop-place.place-index c.place-item.result c.loop-place-test.true c.place-item.is) in
    omega (arith, inside, c.loop-place.invariant.many)

pub loop-place-preserved : goal.loop-place-preserved
loop-place-preserved c =
    rw (take_one_more c.args.places.now c.loop-place.place-index c.place-item.result c.loop-place-test.true c.place-item.is) (marked_more (take c.loop-place.place-index c.args.places.now) (c.place-item.result ∷ []) c.args.marks.now.items c.loop-place.marks.items c.mark_place.new.marks.items c.args.pending.now.items c.loop-place.pending.items c.mark_place.new.pending.items c.loop-place.invariant c.in_ok-mark_place.ensures)
