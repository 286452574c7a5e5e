-- It is not told so far.
use Rattle.std.proofs.Common.{◌≢◌, ℕ, ◌<◌, get_or}
use Rattle.jm_explore.specs.Outcomes.{told_end}
use Rattle.jm_explore.specs.declared.told.Told.{Told}
use Rattle.jm_explore.proofs.told.told_index.Given as goal

abbrev pub invariant-loop-index : goal.invariant-loop-index
invariant-loop-index l = (k : ℕ) (d : Told) → k < l.index → told_end (get_or l.told k d).outcome ≢ told_end l.outcome
