use Rattle.std.proofs.Common.{◌≡◌, sym, ap, ◌∙◌, Some, length, arith}
use Rattle.std.specs.Prelude.{slice_get}
use Rattle.std.proofs.lemmas.Option.{slice_get_past}
use Rattle.jm_values.specs.Rename.{rename}
use Rattle.jm_values.specs.Content.{name_of}
use Rattle.jm_world.specs.Objects.{Object}
use Rattle.jm_values.proofs.Marking.{value_there}
use Rattle.jm_machine.specs.Seen.{ObjectView}
use Rattle.jm_machine.proofs.Told.{object, seen_is, value_seen}
use Rattle.jm_machine.proofs.object.WorldObject.value.Goals as goal

pub length-requires : goal.length-requires
length-requires g c = object c.self.inside.linked.now (g.H.Heap.content c.self.inside.heap.now) c.self.inside.place c.self.invariant.0 c.self.invariant.1

pub get-value-requires : goal.get-value-requires
get-value-requires g c =
    value_there (g.H.Heap.content c.self.inside.heap.now) c.self.inside.place c.self.invariant.1 c.length.ensures c.if-index-length.true

pub returns-then-index-length : goal.returns-then-index-length
returns-then-index-length g c =
    let l = c.self.inside.linked.now in
    let heap = g.H.Heap.content c.self.inside.heap.now in
    ap Some c.world_value.ensures
    ∙ sym (value_seen l heap c.self.inside.place c.self.invariant.0 c.self.invariant.1 c.args.index (rename (name_of heap) c.get-value.result) c.get-value.ensures.value)
    ∙ ap (λ (x : ObjectView). slice_get x.object.values c.args.index) c.self.view_is

pub returns-else-index-length : goal.returns-else-index-length
returns-else-index-length g c =
    let l = c.self.inside.linked.now in
    let heap = g.H.Heap.content c.self.inside.heap.now in
    let place = c.self.inside.place in
    let sound = c.self.invariant.0 in
    let there = c.self.invariant.1 in
    let o = object l heap place sound there in
    let long : c.length.result ≡ length o.1.values = c.length.ensures o.0 o.1 o.2 o.3 in
    sym (slice_get_past o.1.values c.args.index (omega (arith, long, c.if-index-length.false)))
    ∙ ap (λ (x : Object). slice_get x.values c.args.index) (sym (seen_is l heap place sound there))
    ∙ ap (λ (x : ObjectView). slice_get x.object.values c.args.index) c.self.view_is
