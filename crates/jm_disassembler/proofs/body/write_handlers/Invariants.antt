-- What is written so far.
use Rattle.std.proofs.Common.{◌≡◌, ◌++◌, take}
use Rattle.std.specs.List.{flat_map}
use Rattle.jm_disassembler.specs.Bodies.{handler_text}
use Rattle.jm_disassembler.proofs.body.write_handlers.Given as goal

abbrev pub invariant-loop-handler : goal.invariant-loop-handler
invariant-loop-handler l = l.out.bytes.items ≡ l.initial.out.bytes.items ++ flat_map (handler_text) (take l.handler-index l.handlers)
