use Rattle.std.proofs.Common.{not, sym, ap, ◌∙◌}
use Rattle.std.proofs.lemmas.Result.{err_from_is_err_and}
use Rattle.jm_jasmin.specs.Items.{in_body, next_item}
use Rattle.jm_jasmin.proofs.Steps.{step_fault}
use Rattle.jm_jasmin.proofs.body.items_of.Goals as goal

pub returns-in_err-body : goal.returns-in_err-body
returns-in_err-body c =
    let p = err_from_is_err_and c.from_residual.result c.from_residual.ensures.1 in
    rw (p.1, p.2) (λ other. sym c.loop.invariant ∙ step_fault in_body (next_item c.args.method.now) c.loop.body.items.items c.len-count.result c.loop.counter c.loop.lines _ c.loop-test.true (ap not (sym c.begins.ensures ∙ c.if-begins.false)) (c.in_err-body.ensures other))
