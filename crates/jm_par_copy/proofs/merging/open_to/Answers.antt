use Rattle.std.proofs.Common.{◌∙◌, ap}
use Rattle.jm_blocks.specs.Stores.{objects_in}
use Rattle.jm_par_copy.proofs.Strides.{open_same}
use Rattle.jm_par_copy.proofs.merging.open_to.Goals as goal

pub returns-clause-same : goal.returns-clause-same
returns-clause-same c n = ap (λ s. objects_in s n) c.in_ok-open.ensures.ok ∙ open_same c.args.to.now _ n
