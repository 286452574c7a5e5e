use Rattle.std.proofs.Common.{sym, ◌∙◌}
use Rattle.std.proofs.lemmas.Result.{err_from_is_err_and}
use Rattle.jm_bytes.proofs.Loops.{many_fault}
use Rattle.jm_class_format.specs.Members.{method}
use Rattle.jm_class_reader.proofs.method.methods.Goals as goal

pub returns-in_err-method-clause-given : goal.returns-in_err-method-clause-given
returns-in_err-method-clause-given c =
    let p = err_from_is_err_and c.from_residual-in_err-method.result c.from_residual-in_err-method.ensures.1 in
    rw (p.1, p.2) (λ other. sym c.loop.invariant.so_far ∙ many_fault (method c.args.symbols.now c.args.in_interface) c.loop.methods.items c.in_ok-count.count c.loop.counter c.loop.reader _ c.loop-test.true (rw c.loop.invariant.same at (c.in_err-method.ensures.given other)))
