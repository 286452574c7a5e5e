-- One call, which took some of the bytes or failed.
use Rattle.std.proofs.Common.{refl, sym}
use Rattle.jm_execute.proofs.Writing.{written_once, broken_once}
use Rattle.jm_execute.proofs.watched.Watched.write_some.Goals as goal

pub returns-in-Ok-clause-written : goal.returns-in-Ok-clause-written
returns-in-Ok-clause-written g c = rw (sym c.self.view_is) (written_once _ _ _ _ c.in-Ok.ensures.bytes c.in-Ok.ensures.ended refl)

pub returns-in-Err-clause-written : goal.returns-in-Err-clause-written
returns-in-Err-clause-written g c = rw (sym c.self.view_is) (broken_once _ _ _ _ c.requires c.in-Err.ensures.bytes c.in-Err.ensures.ended refl)
