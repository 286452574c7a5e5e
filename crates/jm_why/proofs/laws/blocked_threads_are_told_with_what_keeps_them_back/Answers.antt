-- By what keeps a blocked thread back.
use Rattle.jm_blocked_threads.proofs.Blocking.{blocked_waits}
use Rattle.jm_why.proofs.WaitsOf.{waits_told}
use Rattle.jm_why.proofs.laws.blocked_threads_are_told_with_what_keeps_them_back.Goals as goal

pub returns : goal.returns
returns c = λ w n t is blocked. waits_told w n t (blocked_waits w n t is blocked).0
