-- What was written, and what the frames that are left make of it.
use Rattle.std.proofs.Common.{◌≡◌, ◌++◌}
use Rattle.jm_world.specs.World.{World, thread_at}
use Rattle.jm_machine.specs.View.{MatchesWorld}
use Rattle.jm_trace.proofs.Operands.{rest_of}
use Rattle.jm_why.specs.Kept.{frame_line, frames_of, frames_text}
use Rattle.jm_why.proofs.frames.write_frames.Given as goal

abbrev pub invariant-loop-depth : goal.invariant-loop-depth
invariant-loop-depth g l = (w : World) → MatchesWorld l.machine w
    → l.out.bytes.items ++ rest_of (frame_line w.program) (frames_of (thread_at w l.thread)) l.depth ≡ l.initial.out.bytes.items ++ frames_text w l.thread
