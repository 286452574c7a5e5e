use Rattle.std.proofs.Common.{refl, sym, ◌∙◌, pos}
use Rattle.std.proofs.lemmas.Result.{err_from_is_err_and}
use Rattle.jm_bytes.proofs.Loops.{each_fault}
use Rattle.jm_class_format.specs.Code.{pair_numbered}
use Rattle.jm_opcodes.proofs.targets.pairs_at.Goals as goal

pub returns-in_err-numbered : goal.returns-in_err-numbered
returns-in_err-numbered c =
    let p = err_from_is_err_and c.from_residual.result c.from_residual.ensures.1 in
    rw (p.1, p.2) (λ other. sym c.loop-pair.invariant ∙ each_fault (pair_numbered c.args.starts.now) c.loop-pair.all.items c.args.pairs.now c.loop-pair.pair-index _ (record { key = pos 0; target = 0 }) _ c.loop-pair-test.true refl c.in_err-numbered.ensures)
