-- The object, if it is reachable.
use Rattle.std.proofs.Common.{◌≡◌, ◌++◌, Some, None, OnOk, sym, subst}
use Rattle.jm_machine.specs.Readers.{TellsObject}
use Rattle.jm_trace.proofs.Thrown.{not_reached, reached}
use Rattle.jm_trace.proofs.event_line.write_thrown.Goals as goal

pub returns-in-Ok-None : goal.returns-in-Ok-None
returns-in-Ok-None g c = λ w m.
    let tells : TellsObject w c.args.number None = rw c.in-Ok-None.field-0-is at (c.in-Ok-None.ensures w m) in
    subst (λ t. OnOk c.write_reference.result (c.write_reference.new.out.bytes.items ≡ c.args.out.now.bytes.items ++ t)) (sym (not_reached w c.args.number tells)) c.write_reference.ensures

pub returns-in-Ok-Some : goal.returns-in-Ok-Some
returns-in-Ok-Some g c = λ w m.
    let tells : TellsObject w c.args.number (Some c.in-Ok-Some.object) = rw c.in-Ok-Some.field-0-is at (c.in-Ok-Some.ensures w m) in
    subst (λ t. OnOk c.write_object.result (c.write_object.new.out.bytes.items ≡ c.args.out.now.bytes.items ++ t)) (sym (reached w c.args.number c.in-Ok-Some.object.object tells.0 tells.1)) c.write_object.ensures
