-- By the rule of its instruction, stage or entry.
use Rattle.jm_blocked_threads.proofs.Blocking.{blocked_waits}
use Rattle.jm_blocked_threads.proofs.laws.blocked_threads_wait_for_what_they_ask.Goals as goal

pub returns : goal.returns
returns c = blocked_waits
