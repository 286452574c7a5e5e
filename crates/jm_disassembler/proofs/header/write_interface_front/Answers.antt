-- One text behind another.
use Rattle.jm_disassembler.proofs.Writing.{then_written}
use Rattle.jm_disassembler.proofs.header.write_interface_front.Goals as goal

pub returns : goal.returns
returns c = then_written c.write_interface_flags.result _ _ _ _ _ c.in_ok-push_str.ensures.bytes c.write_interface_flags.ensures
