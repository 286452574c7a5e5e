-- The frames above were read.
use Rattle.std.proofs.Common.{◌≡◌, ◌≤◌, Some, length}
use Rattle.jm_world.specs.World.{World, Thread, thread_at}
use Rattle.jm_machine.specs.View.{MatchesWorld}
use Rattle.jm_film.proofs.frames.frames_of.Given as goal

abbrev pub invariant-loop-depth : goal.invariant-loop-depth
invariant-loop-depth g l = (w : World) (t : Thread) → MatchesWorld l.machine w → thread_at w l.thread ≡ Some t → l.depth ≤ length t.frames
