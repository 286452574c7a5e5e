use Rattle.jm_interp.proofs.FieldRows.{of_another}
use Rattle.jm_interp.proofs.fields.has_fields_of.Goals as goal

pub returns-else-class-declaring : goal.returns-else-class-declaring
returns-else-class-declaring c parts name at named =
    of_another c.args.linked.now.program c.args.class c.args.declaring name parts c.if-class-declaring.false (c.inherits_from.ensures parts name at named)
