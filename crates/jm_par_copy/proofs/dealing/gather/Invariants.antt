use Rattle.jm_par_copy.specs.Copiers.{KeepSeats}
use Rattle.jm_par_copy.specs.Dealing.{AreGathered}
use Rattle.jm_par_copy.proofs.dealing.gather.Given as goal

abbrev pub invariant-loop-number : goal.invariant-loop-number
invariant-loop-number l =
    AreGathered l.fn.copiers.items l.copiers.items l.fn.all.items l.all.items
    × KeepSeats l.fn.copiers.items l.copiers.items
