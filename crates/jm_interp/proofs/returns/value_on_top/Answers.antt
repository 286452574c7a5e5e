use Rattle.std.proofs.Common.{sym, ap, ◌∙◌}
use Rattle.jm_interp.specs.Returned.{value_result}
use Rattle.jm_interp.proofs.returns.value_on_top.Goals as goal

pub returns-in-Ok : goal.returns-in-Ok
returns-in-Ok c f below r s = c.as_result.ensures ∙ ap (value_result c.args.operand_type c.args.kind) (sym c.in-Ok.is ∙ c.operand_at.ensures f below r s)

pub returns-in-Err : goal.returns-in-Err
returns-in-Err c f below r s = ap (value_result c.args.operand_type c.args.kind) (sym c.in-Err.is ∙ c.operand_at.ensures f below r s)
