-- What is kept is every other thread's throw.
use Rattle.std.proofs.Common.{rules}
use Rattle.std.proofs.lemmas.Fn.{filter_same}
use Rattle.std.specs.Prelude.{not, nat_eq}
use Rattle.jm_why.specs.Kept.{ThrowView}
use Rattle.jm_why.proofs.throws.leave_beside.Goals as goal

pub returns-in-None : goal.returns-in-None
returns-in-None c =
    rw c.in-None.is (filter_same _ (λ (t : ThrowView). not (nat_eq t.thread c.args.thread)) _ (λ t b f called. search rules) _ _ c.retain.ensures.filtered)
