-- What is written so far.
use Rattle.std.proofs.Common.{◌≡◌, ◌++◌, take}
use Rattle.std.specs.List.{flat_map}
use Rattle.jm_disassembler.specs.Texts.{marked_method}
use Rattle.jm_disassembler.proofs.member.write_methods.Given as goal

abbrev pub invariant-loop-method : goal.invariant-loop-method
invariant-loop-method l = l.out.bytes.items ≡ l.initial.out.bytes.items ++ flat_map (marked_method l.commented) (take l.method-index l.methods)
