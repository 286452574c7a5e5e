-- What those that are left say.
use Rattle.std.proofs.Common.{◌≡◌, drop}
use Rattle.jm_disassembler.specs.Unsaid.{methods_part}
use Rattle.jm_disassembler.proofs.first.methods_part.Given as goal

abbrev pub invariant-loop-number : goal.invariant-loop-number
invariant-loop-number l = methods_part l.number (drop l.number l.methods) ≡ methods_part 0 l.methods
