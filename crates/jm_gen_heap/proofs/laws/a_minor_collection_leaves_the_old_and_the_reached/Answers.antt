use Rattle.jm_gen_heap.proofs.Keeping.{minor_leaves_old}
use Rattle.jm_gen_heap.proofs.laws.a_minor_collection_leaves_the_old_and_the_reached.Goals as goal

pub returns : goal.returns
returns c = minor_leaves_old
