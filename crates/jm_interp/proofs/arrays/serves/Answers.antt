use Rattle.std.proofs.Common.{◌∙◌}
use Rattle.jm_interp.proofs.Fitting.{served_by_kind}
use Rattle.jm_interp.proofs.arrays.serves.Goals as goal

pub returns-in_default : goal.returns-in_default
returns-in_default c program = c.serves_kind.ensures ∙ served_by_kind program c.args.kind c.args.class c.args.elements c.requires c.in_default.not-Fields
