use Rattle.std.proofs.Common.{refl}
use Rattle.jm_interp.proofs.TopFrames.{top_gone}
use Rattle.jm_interp.proofs.frames.drop_top.Goals as goal

pub returns : goal.returns
returns c fs r s = top_gone c.args.thread.now _ fs r s c.pop-top.ensures.rest refl
