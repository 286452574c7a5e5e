use Rattle.std.proofs.Common.{arith, refl, inr}
use Rattle.std.proofs.Math.Nat.{mod-eq_of_lt}
use Rattle.jm_par_copy.proofs.Begun.{last_own_is}
use Rattle.jm_par_copy.proofs.seating.last_own.Goals as goal

pub returns-then-count-number : goal.returns-then-count-number
returns-then-count-number c =
    let few = c.requires.number in
    let less = c.if-count-number.true in
    record { own = mod-eq_of_lt few; last = omega (arith, few, less); among = inr refl }

pub returns : goal.returns
returns c = last_own_is c.args.number c.args.copiers c.args.count c.requires.number (omega (arith, c.if-count-number.false))
