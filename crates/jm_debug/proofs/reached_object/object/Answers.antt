-- What was written is what is shown.
use Rattle.std.proofs.Common.{Some, None}
use Rattle.jm_machine.specs.Readers.{TellsObject}
use Rattle.jm_debug.proofs.ObjectsShown.{not_reached, object_shown}
use Rattle.jm_debug.proofs.reached_object.object.Goals as goal

pub returns-in-Ok-None : goal.returns-in-Ok-None
returns-in-Ok-None g c = λ w m.
    let tells : TellsObject w c.args.number None = rw c.in-Ok-None.field-0-is at (c.in-Ok-None.ensures w m) in
    not_reached w c.args.number tells

pub returns-in_ok-object_text-in-Ok-Some : goal.returns-in_ok-object_text-in-Ok-Some
returns-in_ok-object_text-in-Ok-Some g c = λ w m.
    let tells : TellsObject w c.args.number (Some c.in-Ok-Some.object) = rw c.in-Ok-Some.field-0-is at (c.in-Ok-Some.ensures w m) in
    object_shown w c.args.number c.in-Ok-Some.object _ tells.0 tells.1 tells.2 c.in_ok-object_text-in-Ok-Some.ensures
