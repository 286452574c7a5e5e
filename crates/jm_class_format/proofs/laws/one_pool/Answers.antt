use Rattle.jm_bytes.proofs.Unique.{one_front}
use Rattle.jm_class_format.specs.PoolEntries.{pool}
use Rattle.jm_class_format.proofs.laws.one_pool.Goals as goal

pub returns : goal.returns
returns c a b u v x y h k e = one_front pool a b u v x y h k e
