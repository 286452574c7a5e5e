-- What the workers made, and the record of it; nothing is written where there is no seat.
use Rattle.std.proofs.Common.{refl}
use Rattle.jm_choice.specs.Choices.{by_workers}
use Rattle.jm_execute.specs.Endings.{exhausted}
use Rattle.jm_execute.proofs.Telling.{untouched_told}
use Rattle.jm_execute.proofs.workers.run_seats.Goals as goal

pub returns-in-Ok : goal.returns-in-Ok
returns-in-Ok g c =
    c.tell_driven-finished.ensures (by_workers g.N.Sharing.seats c.args.steps) c.make_by_workers-driven.ensures.events c.make_by_workers-driven.ensures.whole

pub returns-in-Err : goal.returns-in-Err
returns-in-Err g c = (exhausted, tt, rw c.without_record.ensures.status (untouched_told _ _ exhausted _ _ _ _ c.requires.out refl c.tell_exhausted.ensures), c.without_record.ensures.none)
