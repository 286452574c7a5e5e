use Rattle.std.proofs.Common.{Some, None, sym, ap, ◌∙◌}
use Rattle.std.specs.Prelude.{slice_get}
use Rattle.jm_machine.specs.DeclaredFields.{name_of_declared}
use Rattle.jm_machine.specs.Readers.{model_value}
use Rattle.jm_machine.specs.Seen.{fields_of_type, with_value}
use Rattle.jm_machine.proofs.Told.{field_told, no_value, object}
use Rattle.jm_machine.proofs.object.WorldObject.field.Goals as goal

pub class_of-requires : goal.class_of-requires
class_of-requires g c = object c.self.inside.linked.now (g.H.Heap.content c.self.inside.heap.now) c.self.inside.place c.self.invariant.0 c.self.invariant.1

pub returns-in_default : goal.returns-in_default
returns-in_default g c =
    sym (ap (with_value (slice_get (fields_of_type c.args.self.now.program c.args.self.now.object.type) c.args.index)) (sym c.in_default.ensures)
    ∙ no_value (slice_get (fields_of_type c.args.self.now.program c.args.self.now.object.type) c.args.index))

pub returns-in_default-field_of : goal.returns-in_default-field_of
returns-in_default-field_of g c =
    let l = c.self.inside.linked.now in
    let heap = g.H.Heap.content c.self.inside.heap.now in
    let o = object l heap c.self.inside.place c.self.invariant.0 c.self.invariant.1 in
    field_told l heap c.self.inside.place c.self.invariant.0 c.self.invariant.1 c.args.self.now c.self.view_is c.class_of.result (c.class_of.ensures o.0 o.1 o.2 o.3)
    c.args.index None (Some (model_value c.in-Some.value)) c.in_default-field_of.ensures c.in-Some.ensures

pub returns : goal.returns
returns g c =
    let l = c.self.inside.linked.now in
    let heap = g.H.Heap.content c.self.inside.heap.now in
    let o = object l heap c.self.inside.place c.self.invariant.0 c.self.invariant.1 in
    field_told l heap c.self.inside.place c.self.invariant.0 c.self.invariant.1 c.args.self.now c.self.view_is c.class_of.result (c.class_of.ensures o.0 o.1 o.2 o.3)
    c.args.index (Some (name_of_declared c.in-Some-field_of.found)) (Some (model_value c.in-Some.value)) c.in-Some-field_of.ensures c.in-Some.ensures
