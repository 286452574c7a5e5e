-- All events, or those before a growth was refused.
use Rattle.std.proofs.Common.{subst, sym}
use Rattle.jm_machine.specs.View.{MatchesWorld}
use Rattle.jm_shared.specs.Legal.{world_after}
use Rattle.jm_execute.specs.Endings.{interrupted}
use Rattle.jm_execute.proofs.KeptRecords.{recorded}
use Rattle.jm_execute.proofs.Telling.{ends_in}
use Rattle.jm_execute.proofs.execution.tell_made.Goals as goal

pub returns-in-Ok : goal.returns-in-Ok
returns-in-Ok g c = λ choice made journal.
    let w = world_after g.R.Origin.first c.args.journal.now.entries in
    let (ending, ends, leaves, kept) = c.tell_all_made.ensures w c.machine-machine.ensures.matched in (
      ending,
      ends_in _ _ choice w (rw c.in-Ok.is at made) ending ends,
      leaves,
      recorded c.args.wanted.stress g.R.Origin.first choice _ c.args.wanted.show_heap c.args.wanted.is_recorded _ ending (rw c.in-Ok.is at journal) ends kept,
    )

pub returns-in-Err : goal.returns-in-Err
returns-in-Err g c = λ choice made journal.
    let w = world_after g.R.Origin.first c.args.journal.now.entries in
    let matches = subst (λ m. MatchesWorld m w) (sym c.machine-machine.ensures.machine) c.machine-machine.ensures.matched in
    (interrupted w, rw c.in-Err.is at made, rw c.without_record.ensures.status (c.tell_interrupted.ensures w matches), c.without_record.ensures.none)
