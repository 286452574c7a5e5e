use Rattle.std.proofs.Common.{refl}
use Rattle.jm_state.specs.declared.thread.StackFrame.TheVariants.{Method}
use Rattle.jm_interp.proofs.TopFrames.{top_other}
use Rattle.jm_interp.proofs.thread_entry.replace_frame.Goals as goal

pub returns-in-Some : goal.returns-in-Some
returns-in-Some c f below r s = top_other c.args.thread.now _ f (Method c.args.frame) below r s refl refl
