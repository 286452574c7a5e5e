use Rattle.std.proofs.Common.{◌≡◌, Some, ap, ◌∙◌, sym}
use Rattle.std.specs.Prelude.{slice_get}
use Rattle.std.proofs.lemmas.Option.{slice_get-get_or}
use Rattle.jm_values.proofs.Marking.{among_at}
use Rattle.jm_machine.proofs.ReachedObjects.{object_numbered}
use Rattle.jm_machine.proofs.objects.WorldObjects.get.Goals as goal

pub serial-requires : goal.serial-requires
serial-requires g c =
    let place = c.in_ok-place.field-0.now in
    let (within, is) = c.in_ok-place.ensures.lookup.3 in
    let places = c.deref.result.now in
    let here = among_at places c.args.index place within (is place) in
    c.self.invariant.resident place (rw c.deref.ensures.value at here)

pub returns-clause-object : goal.returns-clause-object
returns-clause-object g c =
    let place = c.in_ok-place.field-0.now in
    let (within, is) = c.in_ok-place.ensures.lookup.3 in
    let places = c.deref.result.now in
    let at : slice_get places c.args.index ≡ Some place = slice_get-get_or places c.args.index place within ∙ ap Some (sym (is place)) in
    object_numbered c.self.inside.linked.now (g.H.Heap.content c.self.inside.heap.now) c.self.inside.places.items c.args.index place c.serial.result
    c.new.result _ c.self.view_is (rw c.deref.ensures.value at at) c.serial.ensures c.new.ensures
