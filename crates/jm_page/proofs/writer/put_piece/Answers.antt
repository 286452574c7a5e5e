-- A write that failed is one of the whole piece.
use Rattle.std.proofs.Common.{subst}
use Rattle.jm_program.specs.Lists.{Begins}
use Rattle.jm_program.proofs.Lists.{begins_whole}
use Rattle.jm_page.proofs.writer.put_piece.Goals as goal

pub returns-in-Err-clause-put : goal.returns-in-Err-clause-put
returns-in-Err-clause-put g c =
    (c.deref.result.now, subst (λ t. Begins c.deref.result.now t) c.deref.ensures.value (begins_whole c.deref.result.now), c.in-Err.ensures)
