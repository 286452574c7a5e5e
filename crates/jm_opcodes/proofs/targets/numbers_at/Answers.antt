use Rattle.std.proofs.Common.{refl, sym, ◌∙◌}
use Rattle.std.proofs.lemmas.Result.{err_from_is_err_and}
use Rattle.jm_bytes.proofs.Loops.{each_fault}
use Rattle.jm_class_format.specs.Code.{number_of}
use Rattle.jm_opcodes.proofs.targets.numbers_at.Goals as goal

pub returns-in_err-number : goal.returns-in_err-number
returns-in_err-number c =
    let p = err_from_is_err_and c.from_residual.result c.from_residual.ensures.1 in
    rw (p.1, p.2) (λ other. sym c.loop-target.invariant ∙ each_fault (number_of c.args.starts.now) c.loop-target.numbers.items c.args.targets.now c.loop-target.target-index _ 0 _ c.loop-target-test.true refl c.in_err-number.ensures)
