-- A call that took no bytes.
use Rattle.std.proofs.Common.{refl, sym}
use Rattle.jm_execute.proofs.Writing.{kept_none, written_once}
use Rattle.jm_execute.proofs.watched.Watched.flush.Goals as goal

pub returns-in-Ok : goal.returns-in-Ok
returns-in-Ok g c = rw (sym c.self.view_is) (written_once _ _ _ _ (kept_none _ _ c.in-Ok.ensures.bytes) c.in-Ok.ensures.ended refl)
