-- How the run ended, or why there is none.
use Rattle.std.proofs.Common.{subst, ◌∙◌}
use Rattle.jm_machine.specs.View.{MatchesWorld}
use Rattle.jm_world.specs.Loading.{loaded_world}
use Rattle.jm_execute.specs.Advice.{most_of, run_answer}
use Rattle.jm_execute.proofs.Advices.{advised_by, numbered}
use Rattle.jm_execute.proofs.advice.run_advice.Goals as goal

pub returns-in_ok-text-in-Ok : goal.returns-in_ok-text-in-Ok
returns-in_ok-text-in-Ok g c =
    let m = c.in-Ok.machine in
    let ready = c.in-Ok.ensures.ready in
    let first = subst (λ n. MatchesWorld m (loaded_world m.linked.program n)) ready.limit_is ready.matches in
    advised_by c.with_number.result c.args.job.now.program.items (run_answer (most_of c.args.job.now.events)) _ _ c.args.status c.in-Ok.ensures.run
    (numbered _ _ _ _ _ c.with_number.ensures (c.deref.ensures ∙ rw c.most_of-most.ensures at (c.in_ok-text-in-Ok.ensures _ first)) c.status_says.ensures)

pub returns-in-Err : goal.returns-in-Err
returns-in-Err g c = rw c.deref-in-Err.ensures.value at (c.refused_advice.ensures _ (run_answer (most_of c.args.job.now.events)) c.args.status c.in-Err.ensures.run)
