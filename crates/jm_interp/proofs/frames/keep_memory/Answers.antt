use Rattle.std.proofs.Common.{refl}
use Rattle.jm_interp.proofs.TopFrames.{top_kept}
use Rattle.jm_interp.proofs.frames.keep_memory.Goals as goal

pub returns-in-Method : goal.returns-in-Method
returns-in-Method c fs r s =
    top_kept c.args.thread.now _ c.in-Method.caller c.keep.new.self c.in-Some.top.now fs r s c.in-Some.ensures.value c.in-Method.is c.keep.ensures refl refl
