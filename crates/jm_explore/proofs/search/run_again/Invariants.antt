-- The events so far were made.
use Rattle.std.proofs.Common.{◌≡◌, take}
use Rattle.jm_world.specs.Loading.{loaded_world}
use Rattle.jm_machine.specs.View.{MatchesWorld}
use Rattle.jm_explore.specs.Switches.{world_after}
use Rattle.jm_explore.proofs.search.run_again.Given as goal

abbrev pub invariant-loop-thread : goal.invariant-loop-thread
invariant-loop-thread g l = record {
  matches : MatchesWorld l.machine (world_after (loaded_world l.fn.machine.linked.program (g.E.EmptyHeaps.limit l.heaps)) (take l.thread-index l.path));
  linked : l.machine.linked ≡ l.fn.machine.linked;
}
