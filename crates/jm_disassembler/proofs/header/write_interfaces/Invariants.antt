-- What is written so far.
use Rattle.std.proofs.Common.{◌≡◌, ◌++◌, take}
use Rattle.std.specs.List.{flat_map}
use Rattle.jm_disassembler.specs.Texts.{implements_text}
use Rattle.jm_disassembler.proofs.header.write_interfaces.Given as goal

abbrev pub invariant-loop-name : goal.invariant-loop-name
invariant-loop-name l = l.out.bytes.items ≡ l.initial.out.bytes.items ++ flat_map (implements_text) (take l.name-index l.names)
