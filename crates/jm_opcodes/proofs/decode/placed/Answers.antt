use Rattle.jm_bytes.proofs.Loops.{run_shorter}
use Rattle.jm_class_format.specs.Instructions.{instruction}
use Rattle.jm_class_format.specs.Code.{instruction_filled}
use Rattle.jm_opcodes.proofs.decode.placed.Goals as goal

pub returns-clause-fewer : goal.returns-clause-fewer
returns-clause-fewer c = run_shorter instruction instruction_filled c.args.at c.args.reader.now c.in_ok-instr.instr c.instruction.new.reader c.in_ok-instr.ensures
