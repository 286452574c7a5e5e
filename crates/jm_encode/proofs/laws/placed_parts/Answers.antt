use Rattle.jm_encode.proofs.Codes.{placed_offsets, placed_instrs}
use Rattle.jm_encode.proofs.laws.placed_parts.Goals as goal

pub returns-clause-offsets : goal.returns-clause-offsets
returns-clause-offsets c at instrs = placed_offsets at instrs

pub returns-clause-instructions : goal.returns-clause-instructions
returns-clause-instructions c at instrs = placed_instrs at instrs
