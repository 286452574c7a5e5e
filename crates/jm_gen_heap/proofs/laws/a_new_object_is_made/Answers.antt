use Rattle.jm_gen_heap.proofs.Keeping.{put_is_made}
use Rattle.jm_gen_heap.proofs.laws.a_new_object_is_made.Goals as goal

pub returns : goal.returns
returns c = put_is_made
