use Rattle.std.proofs.Common.{[], refl}
use Rattle.jm_bytes.proofs.Unique.{one_front}
use Rattle.jm_class_format.specs.PoolEntries.{pool}
use Rattle.jm_pool.proofs.laws.one_pool.Goals as goal

pub returns : goal.returns
returns c bytes p q h k = (one_front pool bytes bytes [] [] p q h k refl).0
