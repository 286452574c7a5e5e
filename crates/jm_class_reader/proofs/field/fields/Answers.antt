use Rattle.std.proofs.Common.{sym, ◌∙◌}
use Rattle.std.proofs.lemmas.Result.{err_from_is_err_and}
use Rattle.jm_bytes.proofs.Loops.{many_fault}
use Rattle.jm_class_format.specs.Members.{field}
use Rattle.jm_class_reader.proofs.field.fields.Goals as goal

pub returns-in_err-field-clause-given : goal.returns-in_err-field-clause-given
returns-in_err-field-clause-given c =
    let p = err_from_is_err_and c.from_residual-in_err-field.result c.from_residual-in_err-field.ensures.1 in
    rw (p.1, p.2) (λ other. sym c.loop.invariant.so_far ∙ many_fault (field c.args.symbols.now) c.loop.fields.items c.in_ok-count.count c.loop.counter c.loop.reader _ c.loop-test.true (rw c.loop.invariant.same at (c.in_err-field.ensures.given other)))
