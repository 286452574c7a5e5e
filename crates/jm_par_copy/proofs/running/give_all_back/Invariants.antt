use Rattle.jm_par_copy.specs.Copiers.{KeepCopying, KeepSeats}
use Rattle.jm_par_copy.proofs.running.give_all_back.Given as goal

abbrev pub invariant-loop-number : goal.invariant-loop-number
invariant-loop-number l = KeepCopying l.fn.copiers.items l.copiers.items × KeepSeats l.fn.copiers.items l.copiers.items
