use Rattle.jm_heap.proofs.MakingOneLaws.{one_is_made, one_is_refused, one_is_as_before}
use Rattle.jm_heap.proofs.laws.one_is_made.Goals as goal

pub returns-clause-made : goal.returns-clause-made
returns-clause-made c = one_is_made

pub returns-clause-refused : goal.returns-clause-refused
returns-clause-refused c = one_is_refused

pub returns-clause-as_before : goal.returns-clause-as_before
returns-clause-as_before c = one_is_as_before
