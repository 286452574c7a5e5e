use Rattle.jm_class_format.specs.PoolEntries.{pool}
use Rattle.jm_pool.proofs.FrontLaws.{took}
use Rattle.jm_pool.proofs.pool.Pool.front_of.Goals as goal

pub overflow_sub-result : goal.overflow_sub-result
overflow_sub-result c = (took pool c.args.bytes.now c.new-reader.result c.take.new.reader c.in_ok-pool.pool c.len.result c.new-reader.ensures c.len.ensures c.in_ok-pool.ensures).0

pub returns : goal.returns
returns c =
    let all = took pool c.args.bytes.now c.new-reader.result c.take.new.reader c.in_ok-pool.pool c.len.result c.new-reader.ensures c.len.ensures c.in_ok-pool.ensures in
    (all.1, all.2)
