use Rattle.std.proofs.Common.{◌≤◌, ◌+◌, refl, arith}
use Rattle.jm_values.specs.Objects.{size_by}
use Rattle.jm_values.proofs.Outcomes.{on_err}
use Rattle.jm_heap.specs.Cells.{class_size, resident_cells}
use Rattle.jm_heap.specs.NewObject.{new_object}
use Rattle.jm_heap.specs.Stored.{numbered}
use Rattle.jm_heap.proofs.NewLemmas.{new_refs}
use Rattle.jm_heap.proofs.MakingLemmas.{sound_made, made_at, at_end, cells_are, limit_is, new_size}
use Rattle.jm_heap.proofs.plain_heap.PlainHeap.allocate_here.Goals as goal

pub returns-then-cells-self-clause-full : goal.returns-then-cells-self-clause-full
returns-then-cells-self-clause-full c =
    let cells = cells_are c.self.inside.limit c.self.inside.next c.self.inside.slots.items c.args.self.now c.self.view_is in
    let limit = limit_is c.self.inside.limit c.self.inside.next c.self.inside.slots.items c.args.self.now c.self.view_is in
    omega (arith, cells, limit, c.self.invariant.cells, c.if-cells-self.true, c.cells-cells.ensures)

pub returns-then-self-ge-MAX_SERIALS-clause-room : goal.returns-then-self-ge-MAX_SERIALS-clause-room
returns-then-self-ge-MAX_SERIALS-clause-room c =
    let cells = cells_are c.self.inside.limit c.self.inside.next c.self.inside.slots.items c.args.self.now c.self.view_is in
    let limit = limit_is c.self.inside.limit c.self.inside.next c.self.inside.slots.items c.args.self.now c.self.view_is in
    omega (arith, cells, limit, c.self.invariant.cells, c.self.invariant.within, c.if-cells-self.false, c.cells-cells.ensures)

pub returns-then-self-ge-MAX_SERIALS-clause-err : goal.returns-then-self-ge-MAX_SERIALS-clause-err
returns-then-self-ge-MAX_SERIALS-clause-err c =
    at_end c.self.inside.limit c.self.inside.next c.self.inside.slots.items c.args.self.now c.self.view_is c.self.invariant.sound (new_object c.args.shape) (omega (arith, c.self.invariant.cells, c.self.invariant.within, c.if-cells-self.false, c.cells-cells.ensures)) (omega (arith, c.if-self-ge-MAX_SERIALS.true))

pub returns-in_err-slot-clause-room : goal.returns-in_err-slot-clause-room
returns-in_err-slot-clause-room c =
    let cells = cells_are c.self.inside.limit c.self.inside.next c.self.inside.slots.items c.args.self.now c.self.view_is in
    let limit = limit_is c.self.inside.limit c.self.inside.next c.self.inside.slots.items c.args.self.now c.self.view_is in
    let room : resident_cells c.args.self.now + size_by class_size (new_object c.args.shape) ≤ c.args.self.now.limit = omega (arith, cells, limit, c.self.invariant.cells, c.self.invariant.within, c.if-cells-self.false, c.cells-cells.ensures) in
    on_err c.from_residual.result room

pub returns-in_err-place-clause-room : goal.returns-in_err-place-clause-room
returns-in_err-place-clause-room c =
    let cells = cells_are c.self.inside.limit c.self.inside.next c.self.inside.slots.items c.args.self.now c.self.view_is in
    let limit = limit_is c.self.inside.limit c.self.inside.next c.self.inside.slots.items c.args.self.now c.self.view_is in
    let room : resident_cells c.args.self.now + size_by class_size (new_object c.args.shape) ≤ c.args.self.now.limit = omega (arith, cells, limit, c.self.invariant.cells, c.self.invariant.within, c.if-cells-self.false, c.cells-cells.ensures) in
    on_err c.from_residual-in_err-place.result room

pub invariant_of-self-2 : goal.invariant_of-self-2
invariant_of-self-2 c = record {
  sound = sound_made c.self.inside.next c.self.inside.slots.items c.store.new.slots.items c.self.invariant.sound c.in_ok-place.place (numbered c.self.inside.next (new_object c.args.shape)) (new_object c.args.shape) (c.in_ok-place.ensures.ok (numbered c.self.inside.next (new_object c.args.shape)) c.in_ok-slot.ensures) refl refl (new_refs c.args.shape) (c.cells-cells.ensures.short (omega (arith, c.self.invariant.within, c.self.invariant.small, c.if-cells-self.false)));
  cells = let more = (c.in_ok-place.ensures.ok (numbered c.self.inside.next (new_object c.args.shape)) c.in_ok-slot.ensures).cells in let size = new_size c.self.inside.next (new_object c.args.shape) in omega (arith, more, size, c.self.invariant.cells, c.cells-cells.ensures);
  within = omega (arith, c.self.invariant.within, c.if-cells-self.false);
  small = c.self.invariant.small;
  few = (c.in_ok-place.ensures.ok (numbered c.self.inside.next (new_object c.args.shape)) c.in_ok-slot.ensures).few;
}

pub returns-clause-ok : goal.returns-clause-ok
returns-clause-ok c =
    made_at c.self.inside.limit c.self.inside.next c.self.inside.slots.items c.store.new.slots.items c.args.self.now c.self.view_is c.self.invariant.sound c.in_ok-place.place (numbered c.self.inside.next (new_object c.args.shape)) (new_object c.args.shape) (c.in_ok-place.ensures.ok (numbered c.self.inside.next (new_object c.args.shape)) c.in_ok-slot.ensures) refl refl refl (new_refs c.args.shape) (c.cells-cells.ensures.short (omega (arith, c.self.invariant.within, c.self.invariant.small, c.if-cells-self.false))) (omega (arith, c.self.invariant.cells, c.self.invariant.within, c.if-cells-self.false, c.cells-cells.ensures)) (omega (arith, c.if-self-ge-MAX_SERIALS.false))

pub returns-clause-full : goal.returns-clause-full
returns-clause-full c =
    let cells = cells_are c.self.inside.limit c.self.inside.next c.self.inside.slots.items c.args.self.now c.self.view_is in
    let limit = limit_is c.self.inside.limit c.self.inside.next c.self.inside.slots.items c.args.self.now c.self.view_is in
    omega (arith, cells, limit, c.self.invariant.cells, c.self.invariant.within, c.if-cells-self.false, c.cells-cells.ensures)
