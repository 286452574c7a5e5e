use Rattle.jm_blocks.proofs.Fewness.{few_begun, few_more, few_bound, few_alone}
use Rattle.jm_blocks.proofs.laws.blocks_are_few.Goals as goal

pub returns : goal.returns
returns c = record { begun = few_begun; more = few_more; bound = few_bound; alone = few_alone }
