use Rattle.std.proofs.Common.{sym, ◌∙◌}
use Rattle.std.specs.Prelude.{codes}
use Rattle.std.proofs.lemmas.Result.{err_from_is_err_and}
use Rattle.jm_jasmin.specs.Methods.{method}
use Rattle.jm_jasmin.specs.Lines.{begins}
use Rattle.jm_jasmin.proofs.Steps.{list_fault}
use Rattle.jm_jasmin.proofs.method.methods.Goals as goal

pub returns-in_err-method : goal.returns-in_err-method
returns-in_err-method c =
    let p = err_from_is_err_and c.from_residual.result c.from_residual.ensures.1 in
    rw (p.1, p.2) (λ other. sym c.loop.invariant ∙ list_fault (begins (codes ".method")) (method c.args.in_interface) c.loop.methods.items c.len-count.result c.loop.counter c.loop.lines _ c.loop-test.true (sym c.begins.ensures ∙ c.if-not-begins.false) (c.in_err-method.ensures other))
