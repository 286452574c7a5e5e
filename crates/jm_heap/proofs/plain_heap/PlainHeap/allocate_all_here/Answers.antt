use Rattle.std.proofs.Common.{◌≡◌, ◌≤◌, ◌+◌, ◌^◌, length, arith, subst, sym, sum_by}
use Rattle.std.specs.Prelude.{map}
use Rattle.std.proofs.lemmas.List.{length-map}
use Rattle.jm_values.specs.Objects.{size_by}
use Rattle.jm_heap.specs.Cells.{class_size}
use Rattle.jm_heap.specs.NewObject.{new_object}
use Rattle.jm_heap.specs.Slots.{slots_cells}
use Rattle.jm_heap.specs.Stored.{AreTaken, StoredAll}
use Rattle.jm_heap.proofs.MakingLemmas.{cells_are, limit_is}
use Rattle.jm_heap.proofs.MakingAllLemmas.{grown, all_made, all_at_end}
use Rattle.jm_heap.proofs.ShapesLemmas.{are_new, numbered_taken}
use Rattle.jm_heap.proofs.plain_heap.PlainHeap.allocate_all_here.Goals as goal

pub returns-then-self-count-clause-err : goal.returns-then-self-count-clause-err
returns-then-self-count-clause-err c =
    let cells = cells_are c.self.inside.limit c.self.inside.next c.self.inside.slots.items c.args.self.now c.self.view_is in
    let limit = limit_is c.self.inside.limit c.self.inside.next c.self.inside.slots.items c.args.self.now c.self.view_is in
    let many = length-map c.args.shapes.now new_object in
    all_at_end c.self.inside.limit c.self.inside.next c.self.inside.slots.items c.args.self.now c.self.view_is c.self.invariant.sound (map new_object c.args.shapes.now) (omega (arith, cells, limit, c.requires.cells, c.requires.room)) (omega (arith, many, c.if-self-count.true))

pub store_all-requires-clause-taken : goal.store_all-requires-clause-taken
store_all-requires-clause-taken c = subst AreTaken (sym c.in_ok-objects.ensures) (numbered_taken c.self.inside.next (map new_object c.args.shapes.now))

pub overflow_add-self-2 : goal.overflow_add-self-2
overflow_add-self-2 c =
    let cells = cells_are c.self.inside.limit c.self.inside.next c.self.inside.slots.items c.args.self.now c.self.view_is in
    let limit = limit_is c.self.inside.limit c.self.inside.next c.self.inside.slots.items c.args.self.now c.self.view_is in
    omega (arith, cells, limit, c.self.invariant.cells, c.self.invariant.small, c.requires.room)

pub invariant_of-self-2 : goal.invariant_of-self-2
invariant_of-self-2 c =
    let cells = cells_are c.self.inside.limit c.self.inside.next c.self.inside.slots.items c.args.self.now c.self.view_is in
    let limit = limit_is c.self.inside.limit c.self.inside.next c.self.inside.slots.items c.args.self.now c.self.view_is in
    let many = length-map c.args.shapes.now new_object in
    let stored = subst (λ l. StoredAll c.self.inside.slots.items c.store_all.new.slots.items c.in_ok-places.places.items l) c.in_ok-objects.ensures c.in_ok-places.ensures.ok in
    let g = grown c.self.inside.limit c.self.inside.next (c.self.inside.next + length c.args.shapes.now) c.self.inside.slots.items c.store_all.new.slots.items c.in_ok-places.places.items (map new_object c.args.shapes.now) c.self.invariant.sound c.self.invariant.few (are_new c.args.shapes.now c.requires.short) (omega (arith, cells, limit, c.requires.cells, c.requires.room)) (omega (arith, many)) (omega (arith, c.if-self-count.false)) stored in
    record {
      sound = g.sound;
      cells = omega (arith, g.cells, c.self.invariant.cells, c.requires.cells);
      within = omega (arith, cells, limit, c.self.invariant.cells, c.requires.room);
      small = c.self.invariant.small;
      few = g.few;
    }

pub returns-clause-ok : goal.returns-clause-ok
returns-clause-ok c =
    let cells = cells_are c.self.inside.limit c.self.inside.next c.self.inside.slots.items c.args.self.now c.self.view_is in
    let limit = limit_is c.self.inside.limit c.self.inside.next c.self.inside.slots.items c.args.self.now c.self.view_is in
    let many = length-map c.args.shapes.now new_object in
    let room : slots_cells c.self.inside.slots.items + sum_by (size_by class_size) (map new_object c.args.shapes.now) ≤ c.self.inside.limit = omega (arith, cells, limit, c.requires.cells, c.requires.room) in
    let last : c.self.inside.next + length (map new_object c.args.shapes.now) ≡ c.self.inside.next + length c.args.shapes.now = omega (arith, many) in
    let lasts : c.self.inside.next + length c.args.shapes.now ≤ 2 ^ 63 = omega (arith, c.if-self-count.false) in
    let stored = subst (λ l. StoredAll c.self.inside.slots.items c.store_all.new.slots.items c.in_ok-places.places.items l) c.in_ok-objects.ensures c.in_ok-places.ensures.ok in
    let g = grown c.self.inside.limit c.self.inside.next (c.self.inside.next + length c.args.shapes.now) c.self.inside.slots.items c.store_all.new.slots.items c.in_ok-places.places.items (map new_object c.args.shapes.now) c.self.invariant.sound c.self.invariant.few (are_new c.args.shapes.now c.requires.short) room last lasts stored in
    all_made c.self.inside.limit c.self.inside.next (c.self.inside.next + length c.args.shapes.now) c.self.inside.slots.items c.store_all.new.slots.items c.args.self.now c.self.view_is c.self.invariant.sound c.in_ok-places.places.items (map new_object c.args.shapes.now) g room last lasts
