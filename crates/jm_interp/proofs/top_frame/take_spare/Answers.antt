use Rattle.std.proofs.Common.{refl}
use Rattle.jm_interp.proofs.TopFrames.{top_kept}
use Rattle.jm_interp.proofs.top_frame.take_spare.Goals as goal

pub returns : goal.returns
returns c fs r s =
    top_kept c.args.thread.now _ c.in-Method.frame c.take_spare.new.self c.in-Some.top.now fs r s c.in-Some.ensures.value c.in-Method.is
    c.take_spare.ensures refl refl
