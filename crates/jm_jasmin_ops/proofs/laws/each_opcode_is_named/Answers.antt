use Rattle.jm_jasmin_ops.proofs.NamedOpcodes.{is_named}
use Rattle.jm_jasmin_ops.proofs.laws.each_opcode_is_named.Goals as goal

pub returns : goal.returns
returns c = is_named
