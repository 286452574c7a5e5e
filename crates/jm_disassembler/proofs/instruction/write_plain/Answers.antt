-- A lookupswitch has its rows below the line.
use Rattle.jm_disassembler.specs.Instructions.{plain_text}
use Rattle.jm_disassembler.proofs.instruction.write_plain.Goals as goal

pub returns-in-LookupSwitch : goal.returns-in-LookupSwitch
unfolding plain_text
returns-in-LookupSwitch c = rw c.in-LookupSwitch.is c.write-in-LookupSwitch.ensures.bytes
