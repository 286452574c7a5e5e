use Rattle.std.proofs.Common.{refl}
use Rattle.jm_interp.proofs.TypeRows.{holds_instance, holds_array}
use Rattle.jm_interp.proofs.type_checks.type_of.Goals as goal

pub returns-in_ok-element-in-Instance : goal.returns-in_ok-element-in-Instance
returns-in_ok-element-in-Instance c = holds_instance c.args.linked.now.program c.in-Instance.is c.in_ok-element-in-Instance.ensures

pub returns-in_ok-element-in-Array : goal.returns-in_ok-element-in-Array
returns-in_ok-element-in-Array c = holds_array c.args.linked.now.program c.in-Array.is refl c.in_ok-element-in-Array.ensures
