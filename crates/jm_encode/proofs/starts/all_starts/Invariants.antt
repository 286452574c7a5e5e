use Rattle.jm_encode.proofs.LaidOut.{IsLaidOut}
use Rattle.jm_encode.proofs.starts.all_starts.Given as goal

abbrev pub invariant-loop-instr : goal.invariant-loop-instr
invariant-loop-instr l = IsLaidOut l.instructions l.instr-index l.at l.starts.items
