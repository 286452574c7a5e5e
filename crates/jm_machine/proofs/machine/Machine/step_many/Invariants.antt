use Rattle.std.proofs.Common.{◌-◌, ◌≤◌}
use Rattle.jm_world.specs.World.{World}
use Rattle.jm_machine.specs.View.{MatchesWorld}
use Rattle.jm_machine.proofs.ManySteps.{AreAlike}
use Rattle.jm_machine.proofs.machine.Machine.step_many.Given as goal

abbrev pub invariant-loop-alike : goal.invariant-loop-alike
invariant-loop-alike g l = record {
  steps : (w : World) → MatchesWorld l.fn.self w → AreAlike w l.thread l.self l.alike l.reply;
  within : l.alike ≤ l.most;
}

abbrev pub decreases-loop-alike : goal.decreases-loop-alike
decreases-loop-alike g l = l.most - l.alike
