-- What was written so far, and what the events that are left make of it.
use Rattle.std.proofs.Common.{◌≡◌, ◌-◌, ℕ, List, [], ◌++◌, take}
use Rattle.jm_world.specs.World.{World}
use Rattle.jm_world.specs.Run.{run_from}
use Rattle.jm_machine.specs.View.{MatchesWorld}
use Rattle.jm_film.specs.Shots.{shots}
use Rattle.jm_film.proofs.shots.show.Given as goal

abbrev pub invariant-loop-shot : goal.invariant-loop-shot
invariant-loop-shot g l = (l.piece.items ≡ []) × ((w : World) → MatchesWorld l.initial.machine w → g.S.EventsDue.knows l.initial.events w
    → (now : World) × MatchesWorld l.machine now × g.S.EventsDue.knows l.events now × (done : List ℕ) × (g.P.PageWriter.wrote l.initial.page done l.page)
    × (shots l.steps w l.initial.filming (g.S.EventsDue.due l.initial.events w) ≡ done ++ shots (l.steps - l.shot) now l.filming (g.S.EventsDue.due l.events now))
    × (run_from w (take l.steps (g.S.EventsDue.due l.initial.events w)) ≡ run_from now (take (l.steps - l.shot) (g.S.EventsDue.due l.events now))))
