use Rattle.jm_pool.proofs.BuiltPools.{sound_spells}
use Rattle.jm_pool.proofs.laws.built_pool_spelled.Goals as goal

pub returns : goal.returns
returns c = sound_spells
