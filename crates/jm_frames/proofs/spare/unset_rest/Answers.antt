use Rattle.std.proofs.Common.{◌≡◌, ◌-◌, ◌++◌, ◌∙◌, None, ap, arith, length, replicate}
use Rattle.jm_frames.proofs.spare.unset_rest.Goals as goal

pub returns : goal.returns
returns c =
    let items = c.args.locals.now.items in
    let all : c.loop-unset._unset - length items ≡ c.args.count - length items = omega (arith, c.len-unset.ensures, c.requires.fewer) in
    c.loop-unset.invariant.items ∙ ap (λ n. items ++ replicate n None) all
