-- How the replay ends.
use Rattle.std.proofs.Common.{subst}
use Rattle.jm_choice.specs.Choices.{recorded}
use Rattle.jm_world.specs.Loading.{loaded_world}
use Rattle.jm_execute.specs.Endings.{Ends}
use Rattle.jm_execute.proofs.Beginnings.{allowed}
use Rattle.jm_execute.proofs.Telling.{no_talk, untouched_told}
use Rattle.jm_execute.proofs.execution.execute_replay.Goals as goal

pub run_replay-requires-clause-first : goal.run_replay-requires-clause-first
run_replay-requires-clause-first g c = c.in-Ok.ensures.ready.matches

pub returns-in-Ok : goal.returns-in-Ok
returns-in-Ok g c =
    let (ending, ends, leaves) = c.run_replay.ensures in
    let m = c.in-Ok.machine in
    let choice = recorded c.in-Ok.read in
    let from = subst (λ n. Ends c.args.job.now.show_heap (loaded_world m.linked.program n) choice ending) c.in-Ok.ensures.ready.limit_is ends in
    (ending, allowed _ _ _ _ _ c.in-Ok.ensures.run ending from, no_talk _ _ choice ending from, leaves)

pub returns-in-Err : goal.returns-in-Err
returns-in-Err g c = let (ending, allows, silent, none, told, whole) = c.tell_obstacle.ensures.job _ c.in-Err.ensures.run in (ending, allows, silent, untouched_told _ _ ending _ _ _ _ c.requires.out none told)
