-- No thread so far can go, and nothing has changed.
use Rattle.std.proofs.Common.{◌≡◌, ◌≤◌}
use Rattle.jm_world.specs.World.{World}
use Rattle.jm_machine.specs.View.{MatchesWorld}
use Rattle.jm_explore.proofs.Offers.{NoneAbove}
use Rattle.jm_explore.proofs.thread.go_among.Given as goal

abbrev pub invariant-loop-index : goal.invariant-loop-index
invariant-loop-index g l = record {
  matches : (w : World) → MatchesWorld l.fn.machine w → MatchesWorld l.machine w;
  none : (w : World) → MatchesWorld l.fn.machine w → NoneAbove w l.from l.index;
  low : l.from ≤ l.index;
  todo : (w : World) → MatchesWorld l.fn.machine w → l.todo.items ≡ l.fn.todo.items;
  linked : l.machine.linked ≡ l.fn.machine.linked;
}
