use Rattle.std.proofs.Common.{◌≡◌, ap, ◌∙◌, arith}
use Rattle.std.proofs.lemmas.List.Sums.{sum_by_more}
use Rattle.jm_values.proofs.Marking.{among_at}
use Rattle.jm_machine.specs.Seen.{ObjectView}
use Rattle.jm_world.specs.Objects.{size}
use Rattle.jm_machine.proofs.ObjectCells.{place_cells, cells_fit, cells_told}
use Rattle.jm_machine.proofs.objects.cells_at.Goals as goal

pub new-requires-clause-there : goal.new-requires-clause-there
new-requires-clause-there g c =
    let place = c.place-item.result in
    c.requires.resident place (among_at c.args.places.now c.loop-place.place-index place c.loop-place-test.true c.place-item.is)

pub overflow_add-total : goal.overflow_add-total
overflow_add-total g c =
    let l = c.args.linked.now in
    let heap = g.H.Heap.content c.args.heap.now in
    let place = c.place-item.result in
    let fits = cells_fit l heap c.args.places.now c.requires c.loop-place.place-index place c.loop-place-test.true c.place-item.is in
    let one : c.cells-total.result ≡ place_cells l heap place = c.cells-total.ensures ∙ ap (λ (o : ObjectView). size o.object) c.new.ensures in
    omega (arith, c.used-most.ensures.value)

pub loop-place-preserved : goal.loop-place-preserved
loop-place-preserved g c =
    let l = c.args.linked.now in
    let heap = g.H.Heap.content c.args.heap.now in
    let place = c.place-item.result in
    let one : c.cells-total.result ≡ place_cells l heap place = c.cells-total.ensures ∙ ap (λ (o : ObjectView). size o.object) c.new.ensures in
    let same = ap (place_cells l heap) c.place-item.is in
    let more = sum_by_more (place_cells l heap) c.args.places.now c.loop-place.place-index place c.loop-place-test.true in
    omega arith

pub returns : goal.returns
returns g c =
    c.loop-place.invariant
    ∙ cells_told c.args.linked.now (g.H.Heap.content c.args.heap.now) c.args.places.now c.loop-place.place-index c.loop-place-test.false
