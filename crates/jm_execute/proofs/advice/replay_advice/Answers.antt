-- How the replay ended, or why there is none.
use Rattle.std.proofs.Common.{subst, ◌∙◌}
use Rattle.jm_machine.specs.View.{MatchesWorld}
use Rattle.jm_world.specs.Loading.{loaded_world}
use Rattle.jm_execute.specs.Advice.{replay_answer}
use Rattle.jm_execute.proofs.Advices.{advised_by, numbered}
use Rattle.jm_execute.proofs.advice.replay_advice.Goals as goal

pub returns-in-Ok : goal.returns-in-Ok
returns-in-Ok g c =
    let m = c.in-Ok.machine in
    let ready = c.in-Ok.ensures.ready in
    let first = subst (λ n. MatchesWorld m (loaded_world m.linked.program n)) ready.limit_is ready.matches in
    advised_by c.with_number.result c.args.job.now.program.items (replay_answer c.args.job.now.record_file) _ _ c.args.status c.in-Ok.ensures.run
    (numbered _ _ _ _ _ c.with_number.ensures (c.deref.ensures ∙ c.in_ok-text-in-Ok.ensures _ first) c.status_says.ensures)

pub returns : goal.returns
returns g c = rw c.deref-in-Err.ensures.value at (c.refused_advice.ensures _ (replay_answer c.args.job.now.record_file) c.args.status c.in-Err.ensures.run)
