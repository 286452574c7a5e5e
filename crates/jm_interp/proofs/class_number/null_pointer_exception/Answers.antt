use Rattle.jm_linked.proofs.BuiltInNumbers.{names_built_in}
use Rattle.jm_interp.proofs.class_number.null_pointer_exception.Goals as goal

pub returns : goal.returns
returns c = names_built_in c.args.linked.now.program c.number.result _ c.number.ensures.named
