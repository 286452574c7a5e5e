use Rattle.std.proofs.Common.{◌≡◌, ◌-◌, ◌≤◌}
use Rattle.jm_world.specs.World.{World}
use Rattle.jm_machine.specs.View.{MatchesWorld}
use Rattle.jm_machine.proofs.UpToPlaces.{AlikeApart}
use Rattle.jm_machine.proofs.machine.Machine.step_up_to.Given as goal

abbrev pub invariant-loop-made : goal.invariant-loop-made
invariant-loop-made g l = record {
  steps : (w : World) → MatchesWorld l.fn.self w → AlikeApart l.fn.self.linked l.places w l.thread l.self l.made l.reply;
  within : l.made ≤ l.most;
  linked : l.self.linked ≡ l.fn.self.linked;
}

abbrev pub decreases-loop-made : goal.decreases-loop-made
decreases-loop-made g l = l.most - l.made
