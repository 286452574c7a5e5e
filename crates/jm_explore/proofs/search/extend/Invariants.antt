-- The schedule so far is a beginning, and what is not told begins with it or with a branch.
use Rattle.std.proofs.Common.{◌≡◌, ℕ, ◌+◌, ◌-◌, List, None, length}
use Rattle.jm_world.specs.World.{World}
use Rattle.jm_machine.specs.View.{MatchesWorld}
use Rattle.jm_explore.specs.Counts.{below, below_all}
use Rattle.jm_explore.specs.Outcomes.{Found}
use Rattle.jm_explore.specs.Searches.{Making}
use Rattle.jm_explore.specs.Switches.{turn_from, world_after}
use Rattle.jm_explore.proofs.search.extend.Given as goal

abbrev pub invariant-loop-bounds : goal.invariant-loop-bounds
invariant-loop-bounds g l = record {
  making : (w : World) (most : ℕ) (found : List Found) → Making w l.bounds.slice most l.bounds.steps found l.initial.path.items l.initial.todo.items l.left → l.initial.last ≡ turn_from l.bounds.slice None l.initial.path.items
      → MatchesWorld l.initial.machine (world_after w l.initial.path.items)
      → Making w l.bounds.slice most l.bounds.steps found l.path.items l.todo.items l.left × (l.last ≡ turn_from l.bounds.slice None l.path.items) × MatchesWorld l.machine (world_after w l.path.items);
  weighs : (w : World) (most : ℕ) (found : List Found) → Making w l.bounds.slice most l.bounds.steps found l.initial.path.items l.initial.todo.items l.left → l.initial.last ≡ turn_from l.bounds.slice None l.initial.path.items
      → MatchesWorld l.initial.machine (world_after w l.initial.path.items)
      → (f : List ℕ → ℕ) → below w l.bounds.slice l.bounds.steps f l.initial.path.items l.left + below_all w l.bounds.slice l.bounds.steps f l.initial.path.items l.initial.todo.items
      ≡ below w l.bounds.slice l.bounds.steps f l.path.items l.left + below_all w l.bounds.slice l.bounds.steps f l.path.items l.todo.items;
  linked : l.machine.linked ≡ l.initial.machine.linked;
}

abbrev pub decreases-loop-bounds : goal.decreases-loop-bounds
decreases-loop-bounds g l = l.bounds.steps - length l.path.items
