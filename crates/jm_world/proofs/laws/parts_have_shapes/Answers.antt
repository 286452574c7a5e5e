use Rattle.jm_world.proofs.ShapesOfParts.{frame_is_shape, thread_is_shape, static_is_shape, monitor_is_shape, literal_is_shape}
use Rattle.jm_world.proofs.laws.parts_have_shapes.Goals as goal

pub returns : goal.returns
returns c = record { frames = frame_is_shape; threads = thread_is_shape; statics = static_is_shape; monitors = monitor_is_shape; literals = literal_is_shape }
