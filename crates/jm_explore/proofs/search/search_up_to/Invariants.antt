-- What is told is true, and what is not begins with a branch.
use Rattle.std.proofs.Common.{◌≡◌, ◌≤◌, ◌+◌, ℕ}
use Rattle.jm_world.specs.Loading.{loaded_world}
use Rattle.jm_world.specs.World.{World}
use Rattle.jm_explore.specs.Counts.{Tallied, below_all, exactly, weighed, weight_of}
use Rattle.jm_explore.specs.Lists.{total}
use Rattle.jm_explore.specs.Outcomes.{End}
use Rattle.jm_explore.specs.Schedulings.{schedules}
use Rattle.jm_explore.specs.Searches.{AllBefore, Known, Searching, founds}
use Rattle.jm_explore.proofs.search.search_up_to.Given as goal

abbrev pub invariant-loop-branch : goal.invariant-loop-branch
invariant-loop-branch g l = record {
  known : (w : World) → w ≡ loaded_world l.fn.machine.linked.program (g.E.EmptyHeaps.limit l.heaps) → Known w l.bounds.slice l.switches l.bounds.steps (founds l.fn.progress.told.items)
      → AllBefore w l.bounds.slice l.switches l.bounds.steps (founds l.fn.progress.told.items)
      → Known w l.bounds.slice l.switches l.bounds.steps (founds l.progress.told.items) × AllBefore w l.bounds.slice l.switches l.bounds.steps (founds l.progress.told.items);
  searching : (w : World) → w ≡ loaded_world l.fn.machine.linked.program (g.E.EmptyHeaps.limit l.heaps)
      → Searching w l.bounds.slice l.switches l.bounds.steps (founds l.progress.told.items) l.path.items l.todo.items;
  counted : (w : World) (most : ℕ) → w ≡ loaded_world l.fn.machine.linked.program (g.E.EmptyHeaps.limit l.heaps) → Tallied most l.fn.progress
      → Tallied most l.progress × ((weight : End → ℕ) → weighed weight l.progress.told.items + below_all w l.bounds.slice l.bounds.steps (exactly w l.bounds.slice l.switches (weight_of w l.bounds.steps weight)) l.path.items l.todo.items
      ≡ weighed weight l.fn.progress.told.items + total (exactly w l.bounds.slice l.switches (weight_of w l.bounds.steps weight)) (schedules w l.bounds.slice l.switches l.bounds.steps));
  runs : l.progress.runs ≤ l.fn.progress.runs;
  linked : l.machine.linked ≡ l.fn.machine.linked;
}

abbrev pub decreases-loop-branch : goal.decreases-loop-branch
decreases-loop-branch g l = l.progress.runs
