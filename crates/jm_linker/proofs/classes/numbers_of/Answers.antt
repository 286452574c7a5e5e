-- One more class, in front.
use Rattle.std.proofs.Common.{arith}
use Rattle.jm_linker.proofs.Numbers.{numbered_more}
use Rattle.jm_linker.proofs.classes.numbers_of.Goals as goal

pub loop-number-preserved : goal.loop-number-preserved
loop-number-preserved c = (
  omega (arith, c.loop-number.invariant.0),
  numbered_more c.args.program.now _ c.loop-number.number _ c.units.result c.loop-number.numbers c.insert.new.self (omega arith) c.index-program-number.is (rw c.parts.ensures.parts at c.units.ensures) (omega arith) c.in_ok-insert.ensures.updates.0 c.loop-number.invariant.1,
)
