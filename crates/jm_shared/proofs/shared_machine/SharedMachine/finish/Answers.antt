-- Too few seats lack one, and enough are all.
use Rattle.std.proofs.Common.{refl, arith}
use Rattle.jm_shared.proofs.SeatCounts.{too_few, enough}
use Rattle.jm_shared.proofs.shared_machine.SharedMachine.finish.Goals as goal

pub returns-then-len-from-clause-missing : goal.returns-then-len-from-clause-missing
returns-then-len-from-clause-missing g c =
    (too_few _ _ (omega (arith, c.if-len-from.true, c.len.ensures, c.from.ensures, c.args.seats.ok.0, c.args.self.many)), refl, refl)

pub returns-clause-all : goal.returns-clause-all
returns-clause-all g c =
    enough _ _ c.compare.ensures.within c.compare.ensures.apart
    (omega (arith, c.if-len-from.false, c.len.ensures, c.from.ensures, c.args.seats.ok.0, c.args.self.many))
