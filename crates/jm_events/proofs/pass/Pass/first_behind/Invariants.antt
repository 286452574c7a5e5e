-- The threads that are left are known.
use Rattle.std.proofs.Common.{◌≡◌, length}
use Rattle.jm_world.specs.World.{World}
use Rattle.jm_machine.specs.View.{MatchesWorld}
use Rattle.jm_events.specs.Passes.{Knows}
use Rattle.jm_events.proofs.pass.Pass.first_behind.Given as goal

abbrev pub invariant-loop-thread : goal.invariant-loop-thread
invariant-loop-thread g l = record {
  known : l.self.known ≡ l.initial.self.known;
  knows : (w : World) → MatchesWorld l.machine w → Knows l.initial.self l.passed w → Knows l.self l.passed w;
}

abbrev pub decreases-loop-thread : goal.decreases-loop-thread
decreases-loop-thread g l = length l.self.ahead.items
