-- The lines so far agree.
use Rattle.jm_world.specs.World.{World}
use Rattle.jm_machine.specs.View.{MatchesWorld}
use Rattle.jm_choice.proofs.Entries.{Stands}
use Rattle.jm_choice.proofs.replaying.replay_each.Given as goal

abbrev pub invariant-loop-made : goal.invariant-loop-made
invariant-loop-made g l = record {
  stands : (w : World) → MatchesWorld l.initial.machine w → Stands w l.made l.run.line l.run.seat l.run.event l.run.kind l.machine;
}
