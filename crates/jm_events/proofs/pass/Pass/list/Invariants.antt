-- The threads that were listed are known.
use Rattle.std.proofs.Common.{◌≡◌, ◌-◌, ℕ, length}
use Rattle.jm_world.specs.World.{World}
use Rattle.jm_events.specs.Passes.{Knows}
use Rattle.jm_events.proofs.pass.Pass.list.Given as goal

abbrev pub invariant-loop-self : goal.invariant-loop-self
invariant-loop-self l = (w : World) (passed : ℕ) → l.threads ≡ length w.threads → Knows l.initial.self passed w → Knows l.self passed w

abbrev pub decreases-loop-self : goal.decreases-loop-self
decreases-loop-self l = l.threads - l.self.known
