use Rattle.std.proofs.Common.{sym, ap, ◌∙◌, length}
use Rattle.jm_world.specs.Objects.{Object, size}
use Rattle.jm_heap.specs.Cells.{class_size}
use Rattle.jm_state.proofs.Sizes.{sizes_alike}
use Rattle.jm_machine.specs.Seen.{ObjectView}
use Rattle.jm_machine.proofs.Told.{object, seen_is}
use Rattle.jm_machine.proofs.object.WorldObject.cells.Goals as goal

pub class_of-class-requires : goal.class_of-class-requires
class_of-class-requires g c = object c.self.inside.linked.now (g.H.Heap.content c.self.inside.heap.now) c.self.inside.place c.self.invariant.0 c.self.invariant.1

pub returns : goal.returns
returns g c =
    let l = c.self.inside.linked.now in
    let heap = g.H.Heap.content c.self.inside.heap.now in
    let place = c.self.inside.place in
    let sound = c.self.invariant.0 in
    let there = c.self.invariant.1 in
    let o = object l heap place sound there in
    let class = c.class_of-class.ensures o.0 o.1 o.2 o.3 in
    let seen = seen_is l heap place sound there in
    let many = c.length.ensures ∙ ap (λ (x : ObjectView). length x.object.values) (sym c.self.view_is) ∙ ap (λ (x : Object). length x.values) seen in
    c.size.ensures ∙ ap (λ t. class_size t c.length.result) class ∙ ap (class_size o.1.type) many
    ∙ sym (sizes_alike l.program o.1.type (length o.1.values))
    ∙ ap size (sym seen)
    ∙ ap (λ (x : ObjectView). size x.object) c.self.view_is
