use Rattle.std.proofs.Common.{sym, ◌∙◌}
use Rattle.std.proofs.lemmas.Result.{err_from_is_err_and}
use Rattle.jm_bytes.proofs.Loops.{repeated_fault}
use Rattle.jm_class_format.specs.Members.{field_attribute}
use Rattle.jm_class_reader.proofs.field.field_attributes.Goals as goal

pub returns-in_err-found-clause-given : goal.returns-in_err-found-clause-given
returns-in_err-found-clause-given c =
    let p = err_from_is_err_and c.from_residual-in_err-found.result c.from_residual-in_err-found.ensures.1 in
    rw (p.1, p.2) (λ other. sym c.loop.invariant.so_far ∙ repeated_fault (field_attribute c.args.symbols.now c.args.access c.args.field_type.now) c.loop.found c.in_ok-count.count c.loop.counter c.loop.reader _ c.loop-test.true (rw c.loop.invariant.same at (c.in_err-found.ensures.given other)))
