-- By the row at that index.
use Rattle.std.proofs.Common.{arith}
use Rattle.jm_class_format.proofs.OpcodeTable.{opcode_found, opcode_missing}
use Rattle.jm_opcodes.proofs.table.opcode_of.Goals as goal

pub returns-in-Some : goal.returns-in-Some
returns-in-Some c = opcode_found c.opcodes.result.now c.args.byte c.from.result _ (omega arith) c.opcodes.ensures.meanings c.from.ensures c.in-Some.ensures.lookup.3.0 c.in-Some.ensures.lookup.1

pub returns-in-None : goal.returns-in-None
returns-in-None c = opcode_missing c.opcodes.result.now c.args.byte c.from.result (omega arith) c.opcodes.ensures.meanings c.from.ensures c.in-None.ensures.lookup.3
