use Rattle.std.proofs.Common.{refl}
use Rattle.jm_state.specs.declared.thread.StackFrame.TheVariants.{Initialization}
use Rattle.jm_interp.proofs.TopFrames.{top_other}
use Rattle.jm_interp.proofs.frames.go_to_stage.Goals as goal

pub returns-in-Some : goal.returns-in-Some
returns-in-Some c f below r s =
    top_other c.args.thread.now _ f (Initialization c.args.class c.args.stage) below r s refl refl
