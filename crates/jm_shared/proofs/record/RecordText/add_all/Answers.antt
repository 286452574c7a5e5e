-- One stretch more.
use Rattle.jm_shared.proofs.Records.{stretch_writes}
use Rattle.jm_shared.proofs.record.RecordText.add_all.Goals as goal

pub loop-stretch-preserved : goal.loop-stretch-preserved
loop-stretch-preserved c = stretch_writes _ _ _ _ _ _ _ _ _ c.loop-stretch-test.true c.in_ok-add.ensures c.loop-stretch.invariant
