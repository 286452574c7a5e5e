-- The end of a thread.
use Rattle.std.specs.Prelude.{ℕ, List, [], ◌∷◌, None}
use Rattle.jm_world.specs.Frames.{Frame}
use Rattle.jm_world.specs.Here.{with_frames}
use Rattle.jm_world.specs.Next.{Next, goes}
use Rattle.jm_world.specs.World.{World, Thread, Ending, with_thread}

-- the world in which the thread has ended so: it has no frames and no pending exception
abbrev pub ended_as : World → ℕ → Thread → Ending → World
ended_as w number t ending = with_thread w number (record { object = t.object; frames = []; pending = None; ending = ending })

-- these frames of the thread are left: without one it has ended so
abbrev pub unwound_to : World → ℕ → Thread → List Frame → Ending → Next
unwound_to w number t [] ending = goes (ended_as w number t ending)
unwound_to w number t (f ∷ fs) ending = goes (with_frames w number t (f ∷ fs))
