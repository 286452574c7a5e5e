-- multianewarray has its dimensions behind the class.
use Rattle.jm_program.specs.JasminInstructions.{dimensions_line}
use Rattle.jm_program.specs.Mnemonics.{type_mnemonic}
use Rattle.jm_disassembler.proofs.instruction.write_type.Goals as goal

pub returns-in-NewArrays : goal.returns-in-NewArrays
unfolding type_mnemonic dimensions_line
returns-in-NewArrays c = rw c.in-NewArrays.is c.write-in-NewArrays.ensures.bytes
