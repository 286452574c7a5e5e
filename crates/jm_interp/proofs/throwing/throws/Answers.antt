use Rattle.jm_interp.proofs.Thrown.{in_frames}
use Rattle.jm_interp.proofs.throwing.throws.Goals as goal

pub throw-requires : goal.throw-requires
throw-requires g c = in_frames c.requires
