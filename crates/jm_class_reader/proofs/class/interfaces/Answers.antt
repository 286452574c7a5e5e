use Rattle.std.proofs.Common.{sym, ◌∙◌}
use Rattle.std.proofs.lemmas.Result.{err_from_is_err_and}
use Rattle.jm_bytes.proofs.Loops.{many_fault}
use Rattle.jm_class_format.specs.ClassFile.{class_name}
use Rattle.jm_class_reader.proofs.class.interfaces.Goals as goal

pub returns-in_err-name-clause-given : goal.returns-in_err-name-clause-given
returns-in_err-name-clause-given c =
    let p = err_from_is_err_and c.from_residual-in_err-name.result c.from_residual-in_err-name.ensures.1 in
    rw (p.1, p.2) (λ other. sym c.loop.invariant.so_far ∙ many_fault (class_name c.args.symbols.now) c.loop.names.items c.in_ok-count.count c.loop.counter c.loop.reader _ c.loop-test.true (rw c.loop.invariant.same at (c.in_err-name.ensures.given other)))
