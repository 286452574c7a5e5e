-- From the first world of its program on.
use Rattle.std.proofs.Common.{subst, sym}
use Rattle.jm_world.specs.Loading.{loaded_world}
use Rattle.jm_machine.specs.View.{MatchesWorld}
use Rattle.jm_execute.specs.Written.{words}
use Rattle.jm_execute.proofs.TextsTold.{told_of, untouched_told}
use Rattle.jm_execute.proofs.told_run.tell_run.Goals as goal

pub returns-in-Ok : goal.returns-in-Ok
returns-in-Ok g c =
    let m = c.in-Ok.machine in
    let ready = c.in-Ok.ensures.ready in
    let first = subst (λ n. MatchesWorld m (loaded_world m.linked.program n)) ready.limit_is ready.matches in
    told_of (words g.O.Write.contents g.O.Watchable.ends) (words g.E.Write.contents g.E.Watchable.ends) (g.T.Teller.telling c.args.teller.now) _ _ c.tell_source-status.result c.args.out.now c.tell_source-status.new.out c.args.err.now c.tell_source-status.new.err
    (sym c.in-Ok.ensures.run) (c.tell_source-status.ensures m.linked.program _ first)

pub returns-in-Err : goal.returns-in-Err
returns-in-Err g c =
    let (ending, allows, none, told) = c.tell_obstacle.ensures.told (g.T.Teller.telling c.args.teller.now) _ c.in-Err.ensures.run in
    (ending, allows, untouched_told _ _ (g.T.Teller.telling c.args.teller.now) ending _ _ _ _ c.requires.out none told)
