-- They are the same so far.
use Rattle.std.proofs.Common.{◌≡◌, map, take}
use Rattle.jm_explore.specs.Outcomes.{thrown_of}
use Rattle.jm_explore.proofs.outcome.are_same_ends.Given as goal

abbrev pub invariant-loop-index : goal.invariant-loop-index
invariant-loop-index l = map thrown_of (take l.index l.some) ≡ map thrown_of (take l.index l.others)
