use Rattle.std.proofs.Common.{refl, sym, ◌∙◌}
use Rattle.std.proofs.lemmas.Result.{err_from_is_err_and}
use Rattle.jm_encode.specs.Encoding.{far_text}
use Rattle.jm_encode.proofs.Appending.{texts_fault}
use Rattle.jm_encode.proofs.switch.put_targets.Goals as goal

pub returns-in_err-put_far : goal.returns-in_err-put_far
returns-in_err-put_far c =
    let p = err_from_is_err_and c.from_residual.result c.from_residual.ensures.1 in
    rw (p.1, p.2) (λ other. sym c.loop-target.invariant ∙ texts_fault (far_text c.args.starts.now c.args.at) c.loop-target.out.items c.args.targets.now c.loop-target.target-index _ 0 _ c.loop-target-test.true refl (c.in_err-put_far.ensures other))
