use Rattle.jm_heap.specs.NewObject.{new_object}
use Rattle.jm_machine.proofs.Adding.{room_for_blank, blank_added, last_of, turned}
use Rattle.jm_machine.proofs.first_objects.make_chars.Goals as goal

pub make_object-requires : goal.make_object-requires
unfolding new_object
make_object-requires g c = room_for_blank c.args.text.now _ c.in-Ok.ensures.1 _ _ c.requires

pub set_units-requires-clause-last : goal.set_units-requires-clause-last
unfolding new_object
set_units-requires-clause-last g c =
    last_of _ _ _ _ _ _ c.requires (blank_added c.args.text.now _ c.in-Ok.ensures.1 _ _ _ _ c.in_ok-make_object.ensures)

pub returns : goal.returns
unfolding new_object
returns g c =
    turned _ _ _ _ _ _ _ (blank_added c.args.text.now _ c.in-Ok.ensures.1 _ _ _ _ c.in_ok-make_object.ensures) c.in_ok-set_units.ensures
