-- What came of the record, from the machine's beginning on.
use Rattle.jm_choice.specs.Choices.{recorded}
use Rattle.jm_choice.proofs.Ends.{ends_by_replay}
use Rattle.jm_execute.specs.Beginnings.{beginning}
use Rattle.jm_execute.proofs.replaying.run_replay.Goals as goal

pub returns : goal.returns
returns g c =
    let first = beginning c.args.machine in
    let (w, ends, matches) = ends_by_replay first c.args.read.now c.replay-outcome.new.machine c.replay-outcome.result (c.replay-outcome.ensures first c.requires.first) in
    c.tell_replayed-status.ensures first w (recorded c.args.read.now) ends matches
