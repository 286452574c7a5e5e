use Rattle.std.proofs.Common.{[], ◌∷◌, ap, ◌-◌, arith}
use Rattle.jm_heap.specs.NewObject.{new_object}
use Rattle.jm_machine.specs.FirstObjects.{string_of}
use Rattle.jm_machine.proofs.Adding.{room_for_less, blank_string, field_there, field_fits, chars_there, string_made}
use Rattle.jm_machine.proofs.first_objects.make_string.Goals as goal

pub make_object-requires : goal.make_object-requires
unfolding new_object
make_object-requires g c = room_for_less _ _ (string_of 0 ∷ []) (blank_string ∷ []) (omega arith) c.requires.room

pub set-requires-clause-there : goal.set-requires-clause-there
unfolding new_object
set-requires-clause-there g c =
    field_there _ _ _ _ c.requires.some c.requires.room c.in_ok-make_object.ensures
    _ _ _ _ c.len.ensures (ap (λ n. n - 1) c.len-last.ensures) c.get-chars.ensures c.get-place.ensures

pub set-requires-clause-resident : goal.set-requires-clause-resident
unfolding new_object
set-requires-clause-resident g c =
    chars_there _ _ _ _ c.requires.some c.requires.room c.in_ok-make_object.ensures
    _ _ _ _ c.len.ensures (ap (λ n. n - 1) c.len-last.ensures) c.get-chars.ensures c.get-place.ensures

pub set-requires-clause-fits : goal.set-requires-clause-fits
unfolding new_object
set-requires-clause-fits g c =
    field_fits _ _ _ _ c.requires.some c.requires.room c.in_ok-make_object.ensures
    _ _ _ _ c.len.ensures (ap (λ n. n - 1) c.len-last.ensures) c.get-chars.ensures c.get-place.ensures _

pub returns : goal.returns
unfolding new_object
returns g c =
    string_made _ _ _ _ c.requires.some c.requires.room c.in_ok-make_object.ensures
    _ _ _ _ c.len.ensures (ap (λ n. n - 1) c.len-last.ensures) c.get-chars.ensures c.get-place.ensures _ c.in_ok-set.ensures.ok
