-- The lemma.
use Rattle.jm_execute.proofs.FaultLines.{one_line}
use Rattle.jm_execute.proofs.laws.a_fault_of_a_file_is_one_line.Goals as goal

pub returns : goal.returns
returns c = one_line
