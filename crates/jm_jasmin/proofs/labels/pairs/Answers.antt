use Rattle.std.proofs.Common.{sym, ◌∙◌}
use Rattle.std.specs.HashMap.{get}
use Rattle.std.proofs.lemmas.Result.{err_from_is_err_and}
use Rattle.jm_bytes.proofs.Loops.{each_fault}
use Rattle.jm_program.specs.Names.{same_text}
use Rattle.jm_jasmin.specs.Labels.{pair_of}
use Rattle.jm_jasmin.proofs.labels.pairs.Goals as goal

pub returns-in_err-numbered : goal.returns-in_err-numbered
returns-in_err-numbered c =
    let p = err_from_is_err_and c.from_residual.result c.from_residual.ensures.1 in
    rw (p.1, p.2) (λ other. sym c.loop-pair.invariant ∙ each_fault (pair_of (get same_text c.args.values.now) c.args.count) c.loop-pair.all.items c.args.labelled.now c.loop-pair.pair-index c.pair-item.result _ _ c.loop-pair-test.true c.pair-item.is (c.in_err-numbered.ensures other))
