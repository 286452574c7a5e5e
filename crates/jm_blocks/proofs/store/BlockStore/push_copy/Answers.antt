use Rattle.std.proofs.Common.{◌+◌, ◌≡◌, ◌≤◌, ◌^◌, Some, get_or, ◌-◌, ◌∙◌, ap, arith, sym, subst, length}
use Rattle.std.specs.Prelude.{slice_get, slice_set}
use Rattle.std.proofs.lemmas.List.{length-set}
use Rattle.jm_blocks.specs.Objects.{Object, aged}
use Rattle.jm_blocks.specs.Cells.{object_cells}
use Rattle.jm_blocks.specs.Places.{lane_of}
use Rattle.jm_blocks.specs.Stores.{lists_from, AreCounted, Bumped, last_has_room, next_place}
use Rattle.jm_blocks.proofs.Placing.{lane_put}
use Rattle.jm_blocks.proofs.Filling.{Filled, set_same}
use Rattle.jm_blocks.proofs.Beginning.{few_kept, fill_kept, kept_set, reserved_kept, room_in_kept, within_kept}
use Rattle.jm_blocks.proofs.Tallies.{counted_filled}
use Rattle.jm_blocks.proofs.store.BlockStore.push_copy.Goals as goal
use Rattle.jm_heap.proofs.SizeLaws.{at_least_two}

pub index_mut-block-requires : goal.index_mut-block-requires
index_mut-block-requires c = let within = (within_kept c.self.inside.first c.self.inside.blocks.items c.self.inside.lane c.len-blocks.result c.args.self.now c.self.view_is c.self.invariant.5.last (c.len-blocks.ensures ∙ c.self.inside.blocks.ok.0) c.cells_of-cells.result (sym c.last_has_room.ensures ∙ c.if-last_has_room.true)).1 in omega (arith, within, c.self.inside.blocks.ok.0)

pub place_in-place-requires-clause-index : goal.place_in-place-requires-clause-index
place_in-place-requires-clause-index c =
    let o = c.requires.0 in
    let few = few_kept c.self.inside.first c.self.inside.blocks.items c.self.inside.lane c.len-blocks.result c.args.self.now c.self.view_is c.self.invariant.5.last (c.len-blocks.ensures ∙ c.self.inside.blocks.ok.0) (object_cells o) c.index.result.now c.index.ensures (ap (last_has_room c.args.self.now.lists) (sym (c.cells_of-cells.ensures o c.requires.1)) ∙ sym c.last_has_room.ensures ∙ c.if-last_has_room.true) (at_least_two o.class (length o.values)) in
    omega (arith, few, c.len.ensures.value)

pub bump_copy-requires : goal.bump_copy-requires
bump_copy-requires c =
    let o = c.requires.0 in
    (o, c.requires.1, room_in_kept c.self.inside.first c.self.inside.blocks.items c.self.inside.lane c.len-blocks.result c.args.self.now c.self.view_is c.self.invariant.5.last (c.len-blocks.ensures ∙ c.self.inside.blocks.ok.0) (object_cells o) c.index_mut-block.result.now c.index_mut-block.ensures.value (ap (last_has_room c.args.self.now.lists) (sym (c.cells_of-cells.ensures o c.requires.1)) ∙ sym c.last_has_room.ensures ∙ c.if-last_has_room.true))

filled : (c : goal.After-self-then-last_has_room-1) (o : Object) → slice_get c.args.from.now c.args.index ≡ Some o → Filled c.args.self.now (record { lane = c.self.inside.lane; lists = lists_from c.self.inside.first (slice_set c.self.inside.blocks.items (c.len-blocks.result - 1) c.bump_copy.new.self) }) (aged c.args.age o)
filled c o e =
    let room = ap (last_has_room c.args.self.now.lists) (sym (c.cells_of-cells.ensures o e)) ∙ sym c.last_has_room.ensures ∙ c.if-last_has_room.true in
    fill_kept c.self.inside.first c.self.inside.blocks.items c.self.inside.lane c.len-blocks.result c.args.self.now c.self.view_is c.self.invariant.5.last (c.len-blocks.ensures ∙ c.self.inside.blocks.ok.0) c.index_mut-block.result.now c.bump_copy.new.self (aged c.args.age o) c.self.invariant.1 c.index_mut-block.ensures.value room (c.in_ok-bump_copy.ensures.ok o e)

place : (c : goal.After-self-then-last_has_room-1) (o : Object) → slice_get c.args.from.now c.args.index ≡ Some o → c.place_in-place.result ≡ next_place c.args.self.now (object_cells o)
place c o e =
    let room = ap (last_has_room c.args.self.now.lists) (sym (c.cells_of-cells.ensures o e)) ∙ sym c.last_has_room.ensures ∙ c.if-last_has_room.true in
    c.place_in-place.ensures.value ∙ reserved_kept c.self.inside.first c.self.inside.blocks.items c.self.inside.lane c.len-blocks.result c.args.self.now c.self.view_is c.self.invariant.5.last (c.len-blocks.ensures ∙ c.self.inside.blocks.ok.0) (object_cells o) c.len.result c.index.result.now c.index.ensures room c.len.ensures.value

pub invariant_of-self : goal.invariant_of-self
invariant_of-self c =
    let same = set_same c.self.inside.blocks.items (c.len-blocks.result - 1) c.bump_copy.new.self (c.in_err-bump_copy.ensures.err ∙ c.index_mut-block.ensures.value ∙ ap (get_or c.self.inside.blocks.items (c.len-blocks.result - 1)) (sym c.in_err-bump_copy.ensures.err)) in
    (c.self.invariant.0, c.self.invariant.1, subst (λ xs. c.self.inside.first + length xs ≤ 2 ^ 49) (sym same) c.self.invariant.2, subst (λ xs. AreCounted (lists_from c.self.inside.first xs) c.self.inside.cells) (sym same) c.self.invariant.3, c.self.invariant.4, kept_set c.self.inside.first c.self.inside.blocks.items (c.len-blocks.result - 1) c.bump_copy.new.self _ c.self.invariant.5)

pub invariant_of-self-then-last_has_room : goal.invariant_of-self-then-last_has_room
invariant_of-self-then-last_has_room c =
    let o = c.requires.0 in
    let many = length-set c.self.inside.blocks.items (c.len-blocks.result - 1) c.bump_copy.new.self in
    let counted = counted_filled (record { lane = c.self.inside.lane; lists = lists_from c.self.inside.first c.self.inside.blocks.items }) c.args.self.now _ (aged c.args.age o) c.self.inside.cells c.cells_of-cells.result c.self.view_is (filled c o c.requires.1) (c.cells_of-cells.ensures o c.requires.1) c.self.invariant.3 in
    (c.self.invariant.0, c.self.invariant.1, omega (arith, many, c.self.invariant.2), counted, c.self.invariant.4, kept_set c.self.inside.first c.self.inside.blocks.items (c.len-blocks.result - 1) c.bump_copy.new.self _ c.self.invariant.5)

pub returns-then-last_has_room-clause-ok : goal.returns-then-last_has_room-clause-ok
returns-then-last_has_room-clause-ok c o e = subst (λ p. Bumped c.args.self.now (record { lane = c.self.inside.lane; lists = lists_from c.self.inside.first (slice_set c.self.inside.blocks.items (c.len-blocks.result - 1) c.bump_copy.new.self) }) p (aged c.args.age o)) (sym (place c o e)) (filled c o e).bumped

pub returns-then-last_has_room-clause-filled : goal.returns-then-last_has_room-clause-filled
returns-then-last_has_room-clause-filled c o e = record { place = place c o e; blocks = (filled c o e).blocks }

pub returns-then-last_has_room-clause-lane : goal.returns-then-last_has_room-clause-lane
returns-then-last_has_room-clause-lane c =
    let o = c.requires.0 in
    let few = few_kept c.self.inside.first c.self.inside.blocks.items c.self.inside.lane c.len-blocks.result c.args.self.now c.self.view_is c.self.invariant.5.last (c.len-blocks.ensures ∙ c.self.inside.blocks.ok.0) (object_cells o) c.index.result.now c.index.ensures (ap (last_has_room c.args.self.now.lists) (sym (c.cells_of-cells.ensures o c.requires.1)) ∙ sym c.last_has_room.ensures ∙ c.if-last_has_room.true) (at_least_two o.class (length o.values)) in
    let lane = ap (λ x. x.lane) c.self.view_is in
    ap lane_of c.place_in-place.ensures.value ∙ lane_put c.args.self.now.lane (c.self.inside.first + c.len-blocks.result - 1) c.len.result (omega (arith, lane, c.self.invariant.1)) (omega (arith, few, c.len.ensures.value))
