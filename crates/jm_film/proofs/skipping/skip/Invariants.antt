-- Where one stands behind the events so far.
use Rattle.jm_world.specs.World.{World}
use Rattle.jm_machine.specs.View.{MatchesWorld}
use Rattle.jm_film.proofs.Passing.{SoFar}
use Rattle.jm_film.proofs.skipping.skip.Given as goal

abbrev pub invariant-loop-count : goal.invariant-loop-count
invariant-loop-count g l = (w : World) → MatchesWorld l.initial.machine w → g.S.EventsDue.knows l.initial.events w → (now : World) × MatchesWorld l.machine now
    × g.S.EventsDue.knows l.events now × SoFar w (g.S.EventsDue.due l.initial.events w) now (g.S.EventsDue.due l.events now) l.count l.waiting.items
