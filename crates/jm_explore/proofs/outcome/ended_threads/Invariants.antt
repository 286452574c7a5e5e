-- The threads so far that an exception has ended.
use Rattle.std.proofs.Common.{◌≡◌, map, take}
use Rattle.jm_world.specs.World.{World}
use Rattle.jm_machine.specs.View.{MatchesWorld}
use Rattle.jm_explore.specs.Outcomes.{thrown_from, thrown_of}
use Rattle.jm_explore.proofs.outcome.ended_threads.Given as goal

abbrev pub invariant-loop-index : goal.invariant-loop-index
invariant-loop-index g l = (w : World) → MatchesWorld l.machine w → map thrown_of l.ended.items ≡ thrown_from 1 (take l.index w.threads)
