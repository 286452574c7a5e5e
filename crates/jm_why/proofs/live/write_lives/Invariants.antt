-- What was written, and what the threads that are left make of it.
use Rattle.std.proofs.Common.{◌≡◌, ◌++◌}
use Rattle.jm_world.specs.World.{World}
use Rattle.jm_machine.specs.View.{MatchesWorld}
use Rattle.jm_trace.specs.Doings.{texts_from}
use Rattle.jm_trace.proofs.Operands.{rest_of}
use Rattle.jm_why.specs.Answers.{live_thread}
use Rattle.jm_why.proofs.live.write_lives.Given as goal

abbrev pub invariant-loop-index : goal.invariant-loop-index
invariant-loop-index g l = (w : World) → MatchesWorld l.machine w
    → l.out.bytes.items ++ rest_of (live_thread w l.waiting) w.threads l.index ≡ l.initial.out.bytes.items ++ texts_from (live_thread w l.waiting) 0 w.threads
