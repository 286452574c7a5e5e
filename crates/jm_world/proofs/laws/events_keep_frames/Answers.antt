use Rattle.jm_world.proofs.KeepingFrames.{events_keep_frames}
use Rattle.jm_world.proofs.laws.events_keep_frames.Goals as goal

pub returns : goal.returns
returns c = events_keep_frames
