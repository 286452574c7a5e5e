-- Frames and threads by number.
use Rattle.std.proofs.Common.{◌≡◌, ℕ, ◌+◌, ◌<◌, ◌≤◌, List, Option, Some, None, slice_get, refl, ◌∙◌}
use Rattle.jm_world.specs.World.{Thread}
use Rattle.jm_machine.specs.Readers.{frame_at}
use Rattle.jm_why.specs.Kept.{frames_of}

-- the frame of a thread that is so many below the top
pub frame_of_thread : (o : Option Thread) (depth : ℕ) → frame_at o depth ≡ slice_get (frames_of o) depth
frame_of_thread None depth = refl
frame_of_thread (Some t) depth = refl
