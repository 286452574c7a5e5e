-- What was put, and what the threads that are left make of it.
use Rattle.std.proofs.Common.{◌≡◌, ◌++◌}
use Rattle.jm_world.specs.World.{World}
use Rattle.jm_machine.specs.View.{MatchesWorld}
use Rattle.jm_film.specs.Shown.{threads_sections}
use Rattle.jm_film.proofs.Left.{threads_left}
use Rattle.jm_film.proofs.threads.put_threads.Given as goal

abbrev pub invariant-loop-index : goal.invariant-loop-index
invariant-loop-index g l = (w : World) → MatchesWorld l.machine w
    → l.view.items ++ threads_left w.program l.waiting w.threads l.index ≡ l.initial.view.items ++ threads_sections w.program l.waiting 1 w.threads
