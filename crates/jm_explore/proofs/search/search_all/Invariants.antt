-- All is told that fewer switches lead to.
use Rattle.std.proofs.Common.{◌≡◌, ◌≤◌, ℕ, []}
use Rattle.jm_world.specs.Loading.{loaded_world}
use Rattle.jm_world.specs.World.{World}
use Rattle.jm_explore.specs.Counts.{Tallied}
use Rattle.jm_explore.specs.Searches.{AllBefore, Known, founds}
use Rattle.jm_explore.proofs.Counting.{CountsBefore}
use Rattle.jm_explore.proofs.search.search_all.Given as goal

abbrev pub invariant-loop-switches : goal.invariant-loop-switches
invariant-loop-switches g l = record {
  known : (w : World) → w ≡ loaded_world l.fn.machine.linked.program (g.E.EmptyHeaps.limit l.heaps) → l.fn.progress.told.items ≡ []
      → Known w l.bounds.slice l.switches l.bounds.steps (founds l.progress.told.items) × AllBefore w l.bounds.slice l.switches l.bounds.steps (founds l.progress.told.items);
  counted : (w : World) (most : ℕ) → w ≡ loaded_world l.fn.machine.linked.program (g.E.EmptyHeaps.limit l.heaps) → l.fn.progress.told.items ≡ [] → Tallied most l.fn.progress
      → Tallied most l.progress × CountsBefore w l.bounds.slice l.switches l.bounds.steps l.progress.told.items;
  runs : l.progress.runs ≤ l.fn.progress.runs;
  low : l.switches ≤ l.bounds.switches;
  linked : l.machine.linked ≡ l.fn.machine.linked;
}
