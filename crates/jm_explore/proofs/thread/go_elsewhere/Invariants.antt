-- No thread so far can go, and nothing has changed.
use Rattle.std.proofs.Common.{◌≡◌, ℕ, ◌≤◌, false}
use Rattle.jm_world.specs.World.{World}
use Rattle.jm_explore.specs.Switches.{can_go}
use Rattle.jm_machine.specs.View.{MatchesWorld}
use Rattle.jm_explore.proofs.thread.go_elsewhere.Given as goal

abbrev pub invariant-loop-index : goal.invariant-loop-index
invariant-loop-index g l = record {
  matches : (w : World) → MatchesWorld l.fn.machine w → MatchesWorld l.machine w;
  none : (w : World) → MatchesWorld l.fn.machine w → (s : ℕ) → s ≤ l.index → can_go w s ≡ false;
  todo : (w : World) → MatchesWorld l.fn.machine w → l.todo.items ≡ l.fn.todo.items;
  linked : l.machine.linked ≡ l.fn.machine.linked;
}
