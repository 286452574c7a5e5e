use Rattle.std.proofs.Common.{refl}
use Rattle.jm_interp.proofs.TopFrames.{top_gone}
use Rattle.jm_interp.proofs.frames.end_top.Goals as goal

pub returns-in_default : goal.returns-in_default
returns-in_default c fs r s = top_gone c.args.thread.now _ fs r s c.pop.ensures.rest refl

pub returns-in-Method : goal.returns-in-Method
returns-in-Method c fs r s = c.keep_memory.ensures _ r (top_gone c.args.thread.now _ fs r s c.pop.ensures.rest refl)

pub returns-in-Initialization : goal.returns-in-Initialization
returns-in-Initialization c fs r s = top_gone c.args.thread.now _ fs r s c.pop.ensures.rest refl

pub returns-in-Entry : goal.returns-in-Entry
returns-in-Entry c fs r s = top_gone c.args.thread.now _ fs r s c.pop.ensures.rest refl
