-- The bytes, and then a flush.
use Rattle.jm_execute.proofs.Writing.{handed_on, not_handed_on}
use Rattle.jm_execute.proofs.session.write_answer.Goals as goal

pub returns-in-Ok-flush-clause-written : goal.returns-in-Ok-flush-clause-written
returns-in-Ok-flush-clause-written g c = handed_on _ _ _ _ _ c.in-Ok.ensures c.in-Ok-flush.ensures

pub returns-in-Err-clause-written : goal.returns-in-Err-clause-written
returns-in-Err-clause-written g c = not_handed_on _ _ _ _ _ c.in-Ok.ensures c.in-Err.ensures
