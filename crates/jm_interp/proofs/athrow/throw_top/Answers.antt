use Rattle.jm_interp.proofs.ThrowRow.{leaves_it}
use Rattle.jm_interp.proofs.athrow.throw_top.Goals as goal

pub returns-in-Ok-clause-steps : goal.returns-in-Ok-clause-steps
returns-in-Ok-clause-steps g c = leaves_it c.requires.method c.in-Ok.ensures c.index_mut.ensures.value
