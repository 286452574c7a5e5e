-- What was put, and what the frames that are left make of it.
use Rattle.std.proofs.Common.{◌≡◌, ◌++◌, Some}
use Rattle.jm_world.specs.World.{World, Thread, thread_at}
use Rattle.jm_machine.specs.View.{MatchesWorld}
use Rattle.jm_film.specs.Shown.{frames_sections}
use Rattle.jm_film.proofs.Left.{frames_left}
use Rattle.jm_film.proofs.frames.put_frames.Given as goal

abbrev pub invariant-loop-depth : goal.invariant-loop-depth
invariant-loop-depth g l = (w : World) (t : Thread) → MatchesWorld l.machine w → thread_at w l.thread ≡ Some t
    → l.view.items ++ frames_left w.program l.thread t.frames l.depth ≡ l.initial.view.items ++ frames_sections w.program l.thread t.frames
