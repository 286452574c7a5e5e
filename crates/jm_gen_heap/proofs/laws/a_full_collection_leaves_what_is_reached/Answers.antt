use Rattle.jm_gen_heap.proofs.Keeping.{full_leaves_reached}
use Rattle.jm_gen_heap.proofs.laws.a_full_collection_leaves_what_is_reached.Goals as goal

pub returns : goal.returns
returns c = full_leaves_reached
