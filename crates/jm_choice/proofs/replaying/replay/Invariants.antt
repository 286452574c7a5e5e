-- The entries of the runs so far agree.
use Rattle.std.proofs.Common.{take}
use Rattle.jm_world.specs.World.{World}
use Rattle.jm_machine.specs.View.{MatchesWorld}
use Rattle.jm_schedule.specs.Records.{entries_of}
use Rattle.jm_choice.specs.Replays.{Agrees, world_behind}
use Rattle.jm_choice.proofs.replaying.replay.Given as goal

abbrev pub invariant-loop-run : goal.invariant-loop-run
invariant-loop-run g l = record {
  agrees : (w : World) → MatchesWorld l.initial.machine w → Agrees w (entries_of (take l.run-index l.runs));
  matches : (w : World) → MatchesWorld l.initial.machine w → MatchesWorld l.machine (world_behind w (entries_of (take l.run-index l.runs)));
}
