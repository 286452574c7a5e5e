-- What a step of a thread leaves of the threads of a world.
use Rattle.std.specs.Prelude.{◌≡◌, ◌≢◌, ℕ, ◌+◌, ◌-◌, ◌≤◌, ◌<◌, Option, Some, None, Bool, true, false, length}
use Rattle.jm_machine.specs.Threads.{is_live}
use Rattle.jm_world.specs.World.{World, live_among}
use Rattle.jm_world.specs.declared.stop.Stop.{Stop}

-- how many threads have ended
abbrev pub ended_in : World → ℕ
ended_in w = length w.threads - live_among w.threads

-- a world after a step of the live thread of a number: the others are as they were, and new ones are live
pub record OthersStay (w : World) (n : ℕ) (v : World) : Type 0 where
  pub made : length w.threads ≤ length v.threads
  pub others : (k : ℕ) → k ≤ length w.threads → k ≢ n → is_live v k ≡ is_live w k
  pub fresh : (k : ℕ) → length w.threads + 1 ≤ k → k < length v.threads + 1 → is_live v k ≡ true

abbrev pub has_stopped : Option Stop → Bool
has_stopped (Some s) = true
has_stopped None = false
