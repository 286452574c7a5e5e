-- What was written, and what the frames that are left make of it.
use Rattle.std.proofs.Common.{◌≡◌, ◌++◌, Some}
use Rattle.std.specs.List.{flat_map}
use Rattle.jm_world.specs.World.{World, Thread, thread_at}
use Rattle.jm_machine.specs.View.{MatchesWorld}
use Rattle.jm_debug.specs.Views.{lines_from, frame_lines}
use Rattle.jm_debug.specs.Session.{ended}
use Rattle.jm_debug.proofs.Written.{rest_of}
use Rattle.jm_debug.proofs.thread.write_frames.Given as goal

abbrev pub invariant-loop-depth : goal.invariant-loop-depth
invariant-loop-depth g l = (w : World) (t : Thread) → MatchesWorld l.machine w → thread_at w l.thread ≡ Some t
    → l.out.bytes.items ++ rest_of (frame_lines w.program) t.frames l.depth
    ≡ l.initial.out.bytes.items ++ flat_map ended (lines_from (frame_lines w.program) 0 t.frames)
