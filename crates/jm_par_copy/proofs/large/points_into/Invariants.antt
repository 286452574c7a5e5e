use Rattle.std.proofs.Common.{◌≡◌, map}
use Rattle.jm_heap.specs.Packing.{reference}
use Rattle.jm_copy.specs.Pointing.{points_to}
use Rattle.jm_par_copy.proofs.Alone.{points_from}
use Rattle.jm_par_copy.proofs.large.points_into.Given as goal

abbrev pub invariant-loop-number : goal.invariant-loop-number
invariant-loop-number l = points_to l.fn.lane (map reference l.fn.references) ≡ points_from l.fn.lane l.fn.references l.number
