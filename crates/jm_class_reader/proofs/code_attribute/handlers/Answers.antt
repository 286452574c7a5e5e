use Rattle.std.proofs.Common.{sym, ◌∙◌}
use Rattle.std.proofs.lemmas.Result.{err_from_is_err_and}
use Rattle.jm_bytes.proofs.Loops.{many_fault}
use Rattle.jm_class_format.specs.CodeAttribute.{handler}
use Rattle.jm_class_reader.proofs.code_attribute.handlers.Goals as goal

pub returns-in_err-handler-clause-given : goal.returns-in_err-handler-clause-given
returns-in_err-handler-clause-given c =
    let p = err_from_is_err_and c.from_residual.result c.from_residual.ensures.1 in
    rw (p.1, p.2) (λ other. sym c.loop.invariant.so_far ∙ many_fault (handler c.args.symbols.now c.args.places.now) c.loop.handlers.items c.in-Ok.count c.loop.counter c.loop.reader _ c.loop-test.true (rw c.loop.invariant.same at (c.in_err-handler.ensures.given other)))
