use Rattle.std.proofs.Common.{refl}
use Rattle.jm_opcodes.proofs.Positions.{table_more}
use Rattle.jm_opcodes.proofs.starts.numbers_of.Goals as goal

pub loop-number-preserved : goal.loop-number-preserved
loop-number-preserved c = table_more c.loop-number.numbers.items c.note.new.numbers.items c.args.starts.now c.loop-number.number _ c.loop-number-test.true refl c.loop-number.invariant c.in_ok-note.ensures
