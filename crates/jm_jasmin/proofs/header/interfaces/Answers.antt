use Rattle.std.proofs.Common.{sym, ◌∙◌}
use Rattle.std.specs.Prelude.{codes}
use Rattle.std.proofs.lemmas.Result.{err_from_is_err_and}
use Rattle.jm_jasmin.specs.Lines.{begins, by_line, one_more}
use Rattle.jm_jasmin.specs.Header.{class_line}
use Rattle.jm_jasmin.proofs.Steps.{list_next, list_fault, step_stop}
use Rattle.jm_jasmin.proofs.header.interfaces.Goals as goal

pub returns-then-not-begins : goal.returns-then-not-begins
returns-then-not-begins c =
    sym c.loop.invariant ∙ step_stop (begins (codes ".implements")) (one_more (by_line class_line)) c.loop.names.items c.len-count.result c.loop.counter c.loop.lines (sym c.begins.ensures ∙ c.if-not-begins.true)

pub returns-in_err-name : goal.returns-in_err-name
returns-in_err-name c =
    let p = err_from_is_err_and c.from_residual.result c.from_residual.ensures.1 in
    rw (p.1, p.2) (λ other. sym c.loop.invariant ∙ list_fault (begins (codes ".implements")) (by_line class_line) c.loop.names.items c.len-count.result c.loop.counter c.loop.lines _ c.loop-test.true (sym c.begins.ensures ∙ c.if-not-begins.false) (c.in_err-name.ensures other))

pub loop-preserved : goal.loop-preserved
loop-preserved c =
    rw c.in_ok-push.ensures.items (sym (list_next (begins (codes ".implements")) (by_line class_line) c.loop.names.items c.len-count.result c.loop.counter c.loop.lines c.in_ok-name.name c.interface.new.lines c.loop-test.true (sym c.begins.ensures ∙ c.if-not-begins.false) c.in_ok-name.ensures) ∙ c.loop.invariant)
