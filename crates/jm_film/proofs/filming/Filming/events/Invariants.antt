-- The world so far, and what the events that are left make of it.
use Rattle.std.proofs.Common.{◌≡◌, ◌++◌, drop}
use Rattle.jm_world.specs.World.{World}
use Rattle.jm_world.specs.Run.{run_from}
use Rattle.jm_machine.specs.View.{MatchesWorld}
use Rattle.jm_page.specs.Filming.{all_told}
use Rattle.jm_film.specs.Runs.{moments_from}
use Rattle.jm_film.proofs.filming.Filming.events.Given as goal

abbrev pub invariant-loop-next : goal.invariant-loop-next
invariant-loop-next g l = (w : World) → MatchesWorld l.initial.machine w → (now : World) × MatchesWorld l.machine now
    × (l.out.items ++ all_told l.self.film (moments_from now l.self.waiting (drop l.next-index l.events))
    ≡ l.initial.out.items ++ all_told l.initial.self.film (moments_from w l.initial.self.waiting l.events))
    × (run_from now (drop l.next-index l.events) ≡ run_from w l.events)
