use Rattle.std.proofs.Common.{sym, ap, ◌∙◌, Some, List, arith}
use Rattle.std.specs.Prelude.{slice_get}
use Rattle.std.proofs.lemmas.Option.{slice_get_past, slice_get-get_or}
use Rattle.jm_world.specs.World.{Static}
use Rattle.jm_machine.specs.Seen.{statics_seen}
use Rattle.jm_machine.specs.DeclaredFields.{name_of_declared}
use Rattle.jm_machine.proofs.Told.{none_past, statics_length, static_resident, static_is}
use Rattle.jm_machine.proofs.statics.WorldStatics.get.Goals as goal

pub returns-then-index-self : goal.returns-then-index-self
returns-then-index-self g c =
    let l = c.self.inside.linked.now in
    let heap = g.H.Heap.content c.self.inside.heap.now in
    let long = statics_length l heap c.self.inside.values.now c.self.invariant.0 in
    sym (slice_get_past (statics_seen l heap c.self.inside.values.now) c.args.index (omega (arith, long, c.if-index-self.true)))
    ∙ ap (λ xs. slice_get xs c.args.index) c.self.view_is

pub returns-in_default : goal.returns-in_default
returns-in_default g c =
    sym (none_past c.self.inside.linked.now (g.H.Heap.content c.self.inside.heap.now) c.self.inside.values.now c.args.index c.self.invariant.0
    (sym c.in_default.ensures))
    ∙ ap (λ (xs : List Static). slice_get xs c.args.index) c.self.view_is

pub world_value-requires : goal.world_value-requires
world_value-requires g c =
    static_resident c.self.inside.linked.now (g.H.Heap.content c.self.inside.heap.now) c.self.inside.values.now c.args.index _
    (slice_get-get_or c.self.inside.values.now c.args.index c.index-self-index.result c.if-index-self.false) c.self.invariant.1

pub returns : goal.returns
returns g c =
    let l = c.self.inside.linked.now in
    let heap = g.H.Heap.content c.self.inside.heap.now in
    let values = c.self.inside.values.now in
    let found = name_of_declared c.in-Some.found in
    (λ i. Some (record { field = found; value = c.world_value.ensures i }))
    ∙ sym (static_is l heap values c.args.index _ (slice_get-get_or values c.args.index c.index-self-index.result c.if-index-self.false) found
    (sym c.in-Some.ensures))
    ∙ ap (λ (xs : List Static). slice_get xs c.args.index) c.self.view_is
