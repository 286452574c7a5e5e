use Rattle.jm_interp.proofs.FieldRows.{inherited}
use Rattle.jm_interp.proofs.Unwound.{named_numbered}
use Rattle.jm_interp.proofs.fields.inherits_from.Goals as goal

pub returns-then-not-is_interface : goal.returns-then-not-is_interface
returns-then-not-is_interface c parts name at named =
    let program = c.args.linked.now.program in
    inherited program name parts (c.is_interface.ensures parts at) c.if-not-is_interface.true
    (c.is_subclass.ensures name parts.name named (named_numbered program c.args.declaring parts at))
