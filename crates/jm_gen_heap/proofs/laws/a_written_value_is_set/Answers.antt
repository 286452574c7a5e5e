use Rattle.jm_gen_heap.proofs.Keeping.{written_is_set}
use Rattle.jm_gen_heap.proofs.laws.a_written_value_is_set.Goals as goal

pub returns : goal.returns
returns c = written_is_set
