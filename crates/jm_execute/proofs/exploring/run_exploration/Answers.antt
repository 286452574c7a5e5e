-- What the search found, and how it is told.
use Rattle.jm_execute.proofs.exploring.run_exploration.Goals as goal

pub returns : goal.returns
returns g c =
    let e = c.explore-found.ensures in
    (c.explore-found.result, record { sound = e.sound; within = e.within; fewest = e.fewest; other = e.other; complete = e.complete }, c.tell_found-status.ensures)
