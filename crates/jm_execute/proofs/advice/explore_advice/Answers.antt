-- The number of the status, or why there is nothing to explore.
use Rattle.jm_execute.specs.Advice.{no_answer}
use Rattle.jm_execute.proofs.Advices.{advised_by, no_answer_if, numbered}
use Rattle.jm_execute.proofs.advice.explore_advice.Goals as goal

pub returns-in-Ok : goal.returns-in-Ok
returns-in-Ok g c =
    advised_by c.with_number.result c.args.job.now.program.items no_answer _ _ c.args.status c.in-Ok.ensures (numbered _ _ _ _ _ c.with_number.ensures (no_answer_if c.args.status) c.status_says.ensures)

pub returns-in-Err : goal.returns-in-Err
returns-in-Err g c = rw c.deref.ensures.value at (c.refused_advice.ensures _ no_answer c.args.status c.in-Err.ensures)
