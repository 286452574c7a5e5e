use Rattle.std.proofs.Common.{None, Some}
use Rattle.jm_machine.proofs.InstanceFields.{own_is}
use Rattle.jm_machine.proofs.instance_fields.own_field.Goals as goal

pub returns-in-Some : goal.returns-in-Some
returns-in-Some c = λ program class are. own_is c.args.own.now program class are c.args.number (Some c.in-Some.field.now) c.in-Some.ensures

pub returns-in-None : goal.returns-in-None
returns-in-None c = λ program class are. own_is c.args.own.now program class are c.args.number None c.in-None.ensures
