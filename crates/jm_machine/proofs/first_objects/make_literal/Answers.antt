use Rattle.std.proofs.Common.{[], ◌∷◌, arith}
use Rattle.jm_machine.specs.FirstObjects.{string_of, literal_objects}
use Rattle.jm_machine.proofs.Adding.{room_for_less, room_left, literal_told}
use Rattle.jm_machine.proofs.first_objects.make_literal.Goals as goal

pub make_chars-requires : goal.make_chars-requires
make_chars-requires g c = room_for_less _ _ (literal_objects 0 c.args.text.now) _ (omega arith) c.requires

pub make_string-requires-clause-room : goal.make_string-requires-clause-room
make_string-requires-clause-room g c =
    room_left _ _ _ _ _ (string_of 0 ∷ []) (literal_objects 0 c.args.text.now) (omega arith) c.requires c.in_ok-make_chars.ensures

pub returns : goal.returns
returns g c = literal_told c.make_string.result _ _ _ _ _ _ c.args.text.now c.in_ok-make_chars.ensures c.make_string.ensures
