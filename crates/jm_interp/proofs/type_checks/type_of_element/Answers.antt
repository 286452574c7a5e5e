use Rattle.jm_interp.proofs.TypeRows.{class_element}
use Rattle.jm_interp.proofs.type_checks.type_of_element.Goals as goal

pub returns-else-not-is_numbered : goal.returns-else-not-is_numbered
returns-else-not-is_numbered c = class_element c.args.linked.now.program c.in-Class.is (c.is_numbered.ensures.0 c.if-not-is_numbered.false)
