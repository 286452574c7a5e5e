-- The lines so far agree.
use Rattle.std.proofs.Common.{◌-◌, ◌≤◌}
use Rattle.jm_world.specs.World.{World}
use Rattle.jm_world.specs.declared.event.Event.TheVariants.{Step}
use Rattle.jm_world.specs.declared.reply.ReplyKind.TheVariants.{Done}
use Rattle.jm_machine.specs.View.{MatchesWorld}
use Rattle.jm_choice.proofs.Entries.{Stands}
use Rattle.jm_choice.proofs.replaying.replay_steps.Given as goal

abbrev pub invariant-loop-made : goal.invariant-loop-made
invariant-loop-made g l = record {
  within : l.made ≤ l.run.count;
  stands : (w : World) → MatchesWorld l.initial.machine w → Stands w l.made l.run.line l.run.seat (Step l.thread) Done l.machine;
}

abbrev pub decreases-loop-made : goal.decreases-loop-made
decreases-loop-made g l = l.run.count - l.made
