-- No thread so far.
use Rattle.std.proofs.Common.{◌≡◌, take, false}
use Rattle.jm_world.specs.World.{World}
use Rattle.jm_machine.specs.View.{MatchesWorld}
use Rattle.jm_execute.specs.Reports.{any_ended_by}
use Rattle.jm_execute.proofs.ends.any_ended_by.Given as goal

abbrev pub invariant-loop-index : goal.invariant-loop-index
invariant-loop-index g l = (w : World) → MatchesWorld l.machine w → any_ended_by (take l.index w.threads) ≡ false
