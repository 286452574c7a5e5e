-- What was found among the units that were passed.
use Rattle.std.proofs.Common.{◌≡◌, ◌<◌, drop, length, IfSome}
use Rattle.jm_debug.specs.Commands.{last_of, last_from}
use Rattle.jm_debug.proofs.place.last_of.Given as goal

abbrev pub invariant-loop-index : goal.invariant-loop-index
invariant-loop-index l =
    (last_of l.unit l.units ≡ last_from l.unit l.found l.index (drop l.index l.units)) × IfSome l.found (λ at. at < length l.units)
