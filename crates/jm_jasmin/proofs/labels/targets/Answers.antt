use Rattle.std.proofs.Common.{sym, ◌∙◌}
use Rattle.std.specs.HashMap.{get}
use Rattle.std.proofs.lemmas.Result.{err_from_is_err_and}
use Rattle.jm_bytes.proofs.Loops.{each_fault}
use Rattle.jm_program.specs.Names.{same_text}
use Rattle.jm_jasmin.specs.Labels.{target}
use Rattle.jm_jasmin.proofs.labels.targets.Goals as goal

pub returns-in_err-number : goal.returns-in_err-number
returns-in_err-number c =
    let p = err_from_is_err_and c.from_residual.result c.from_residual.ensures.1 in
    rw (p.1, p.2) (λ other. sym c.loop-label.invariant ∙ each_fault (target (get same_text c.args.values.now) c.args.count) c.loop-label.all.items c.args.labels.now c.loop-label.label-index c.label-item.result _ _ c.loop-label-test.true c.label-item.is (c.in_err-number.ensures other))
