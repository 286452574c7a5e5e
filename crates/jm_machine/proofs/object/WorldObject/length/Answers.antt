use Rattle.std.proofs.Common.{sym, ap, ◌∙◌, length}
use Rattle.jm_world.specs.Objects.{Object}
use Rattle.jm_machine.specs.Seen.{ObjectView}
use Rattle.jm_machine.proofs.Told.{object, seen_is}
use Rattle.jm_machine.proofs.object.WorldObject.length.Goals as goal

pub length-requires : goal.length-requires
length-requires g c = object c.self.inside.linked.now (g.H.Heap.content c.self.inside.heap.now) c.self.inside.place c.self.invariant.0 c.self.invariant.1

pub returns : goal.returns
returns g c =
    let l = c.self.inside.linked.now in
    let heap = g.H.Heap.content c.self.inside.heap.now in
    let place = c.self.inside.place in
    let sound = c.self.invariant.0 in
    let there = c.self.invariant.1 in
    let o = object l heap place sound there in
    c.length.ensures o.0 o.1 o.2 o.3 ∙ ap (λ (x : Object). length x.values) (sym (seen_is l heap place sound there))
    ∙ ap (λ (x : ObjectView). length x.object.values) c.self.view_is
