-- The methods from the number on are in the map.
use Rattle.std.proofs.Common.{◌≤◌, length, drop}
use Rattle.jm_linker.specs.Selectors.{HasFirst, found_methods}
use Rattle.jm_linker.proofs.selectors.selectors_of.Given as goal

abbrev pub invariant-loop-number : goal.invariant-loop-number
invariant-loop-number l = (l.number ≤ length l.methods) × HasFirst l.number l.selectors (found_methods (drop l.number l.methods))

abbrev pub decreases-loop-number : goal.decreases-loop-number
decreases-loop-number l = l.number
