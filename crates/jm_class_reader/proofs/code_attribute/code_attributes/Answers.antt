use Rattle.std.proofs.Common.{sym, ◌∙◌}
use Rattle.std.proofs.lemmas.Result.{err_from_is_err_and}
use Rattle.jm_bytes.proofs.Loops.{repeated_fault}
use Rattle.jm_class_format.specs.CodeAttribute.{code_attribute}
use Rattle.jm_class_reader.proofs.code_attribute.code_attributes.Goals as goal

pub returns-in_err-lines : goal.returns-in_err-lines
returns-in_err-lines c =
    let p = err_from_is_err_and c.from_residual.result c.from_residual.ensures.1 in
    rw (p.1, p.2) (λ other. sym c.loop.invariant ∙ repeated_fault (code_attribute c.args.pool.now c.args.places.now) c.loop.lines.items c.in-Ok.count c.loop.counter c.loop.reader _ c.loop-test.true (c.in_err-lines.ensures other))
