use Rattle.std.proofs.Common.{sym, ◌∙◌}
use Rattle.std.proofs.lemmas.Result.{err_from_is_err_and}
use Rattle.jm_jasmin.proofs.Flags.{flags_fault}
use Rattle.jm_jasmin.proofs.words.flags_from.Goals as goal

pub returns-in_err-mask : goal.returns-in_err-mask
returns-in_err-mask c =
    let p = err_from_is_err_and c.from_residual.result c.from_residual.ensures.1 in
    rw (p.1, p.2) (sym c.loop-word.invariant ∙ flags_fault c.loop-word.all c.args.words.now c.loop-word.word-index c.word-item.result _ _ c.loop-word-test.true c.word-item.is c.in_err-mask.ensures)
