use Rattle.std.proofs.Common.{◌+◌, ◌-◌, ◌∙◌, ap, arith, refl, sym}
use Rattle.jm_blocks.specs.Places.{lane_of}
use Rattle.jm_blocks.proofs.Placing.{lane_put}
use Rattle.jm_blocks.proofs.Filling.{reserved_new}
use Rattle.jm_blocks.proofs.Beginning.{few_kept, reserved_kept, within_kept}
use Rattle.jm_blocks.proofs.store.BlockStore.reserve.Goals as goal

pub index-requires : goal.index-requires
index-requires c = let within = (within_kept c.self.inside.first c.self.inside.blocks.items c.self.inside.lane c.len-count.result c.args.self.now c.self.view_is c.self.invariant.5.last (c.len-count.ensures ∙ c.self.inside.blocks.ok.0) c.args.cells (sym c.last_has_room.ensures ∙ c.if-last_has_room.true)).1 in omega (arith, within, c.self.inside.blocks.ok.0)

pub place_in-requires-clause-index : goal.place_in-requires-clause-index
place_in-requires-clause-index c =
    let few = few_kept c.self.inside.first c.self.inside.blocks.items c.self.inside.lane c.len-count.result c.args.self.now c.self.view_is c.self.invariant.5.last (c.len-count.ensures ∙ c.self.inside.blocks.ok.0) c.args.cells c.index.result.now c.index.ensures (sym c.last_has_room.ensures ∙ c.if-last_has_room.true) c.requires in
    omega (arith, few, c.len.ensures.value)

pub returns-then-last_has_room-clause-ok : goal.returns-then-last_has_room-clause-ok
returns-then-last_has_room-clause-ok c = c.place_in.ensures.value ∙ reserved_kept c.self.inside.first c.self.inside.blocks.items c.self.inside.lane c.len-count.result c.args.self.now c.self.view_is c.self.invariant.5.last (c.len-count.ensures ∙ c.self.inside.blocks.ok.0) c.args.cells c.len.result c.index.result.now c.index.ensures (sym c.last_has_room.ensures ∙ c.if-last_has_room.true) c.len.ensures.value

pub returns-then-last_has_room-clause-lane : goal.returns-then-last_has_room-clause-lane
returns-then-last_has_room-clause-lane c =
    let few = few_kept c.self.inside.first c.self.inside.blocks.items c.self.inside.lane c.len-count.result c.args.self.now c.self.view_is c.self.invariant.5.last (c.len-count.ensures ∙ c.self.inside.blocks.ok.0) c.args.cells c.index.result.now c.index.ensures (sym c.last_has_room.ensures ∙ c.if-last_has_room.true) c.requires in
    let lane = ap (λ x. x.lane) c.self.view_is in
    ap lane_of c.place_in.ensures.value ∙ lane_put c.args.self.now.lane (c.self.inside.first + c.len-count.result - 1) c.len.result (omega (arith, lane, c.self.invariant.1)) (omega (arith, few, c.len.ensures.value))

pub returns-clause-ok : goal.returns-clause-ok
returns-clause-ok c = c.place_in-2.ensures.value ∙ reserved_new c.args.self.now c.args.self.now c.len-3.result c.args.cells refl c.len-3.ensures.value (sym c.last_has_room.ensures ∙ c.if-last_has_room.false)
