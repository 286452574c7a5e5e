-- The steps that were made so far, and what the last one came to.
use Rattle.std.proofs.Common.{◌≡◌, ◌≤◌, ◌<◌, ◌-◌}
use Rattle.jm_world.specs.World.{World}
use Rattle.jm_world.specs.Run.{after}
use Rattle.jm_world.specs.declared.event.Event.TheVariants.{Step}
use Rattle.jm_machine.specs.View.{MatchesWorld}
use Rattle.jm_debug.specs.Session.{more}
use Rattle.jm_debug.specs.Answering.{repeated}
use Rattle.jm_debug.proofs.events.make_steps.Given as goal

abbrev pub invariant-loop-made : goal.invariant-loop-made
invariant-loop-made g l = record {
  within : l.made ≤ l.most;
  world : (w : World) → MatchesWorld l.fn.machine w → MatchesWorld l.machine (repeated l.made (Step l.thread) w);
  last : (w : World) → MatchesWorld l.fn.machine w → 0 < l.made → l.kind ≡ (more (l.made - 1) (Step l.thread) (after w (Step l.thread))).reply.kind;
}

abbrev pub decreases-loop-made : goal.decreases-loop-made
decreases-loop-made g l = l.most - l.made
