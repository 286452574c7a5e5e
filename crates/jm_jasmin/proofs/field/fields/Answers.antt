use Rattle.std.proofs.Common.{sym, ◌∙◌}
use Rattle.std.specs.Prelude.{codes}
use Rattle.std.proofs.lemmas.Result.{err_from_is_err_and}
use Rattle.jm_jasmin.specs.Lines.{begins, by_line}
use Rattle.jm_jasmin.specs.Fields.{field_line}
use Rattle.jm_jasmin.proofs.Steps.{list_fault}
use Rattle.jm_jasmin.proofs.field.fields.Goals as goal

pub returns-in_err-field : goal.returns-in_err-field
returns-in_err-field c =
    let p = err_from_is_err_and c.from_residual.result c.from_residual.ensures.1 in
    rw (p.1, p.2) (λ other. sym c.loop.invariant ∙ list_fault (begins (codes ".field")) (by_line field_line) c.loop.fields.items c.len-count.result c.loop.counter c.loop.lines _ c.loop-test.true (sym c.begins.ensures ∙ c.if-not-begins.false) (c.in_err-field.ensures other))
