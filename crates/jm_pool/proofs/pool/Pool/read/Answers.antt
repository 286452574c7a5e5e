use Rattle.jm_class_format.specs.PoolEntries.{pool}
use Rattle.jm_class_format.specs.declared.fault.PoolFault.TheVariants.{OutOfMemory}
use Rattle.jm_pool.proofs.FrontLaws.{front_found, front_only}
use Rattle.jm_pool.proofs.pool.Pool.read.Goals as goal

pub returns-clause-spelled : goal.returns-clause-spelled
returns-clause-spelled c = front_found pool OutOfMemory c.front_of.result c.args.bytes.now c.front_of.ensures

pub returns-clause-only : goal.returns-clause-only
returns-clause-only c = front_only pool OutOfMemory c.front_of.result c.args.bytes.now c.front_of.ensures
