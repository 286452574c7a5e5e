use Rattle.jm_world.proofs.KeepingFrames.{runs_keep_frames}
use Rattle.jm_world.proofs.laws.runs_keep_frames.Goals as goal

pub returns : goal.returns
returns c = runs_keep_frames
