-- What those that are left say.
use Rattle.std.proofs.Common.{◌≡◌, drop}
use Rattle.jm_disassembler.specs.Unsaid.{fields_part}
use Rattle.jm_disassembler.proofs.first.fields_part.Given as goal

abbrev pub invariant-loop-number : goal.invariant-loop-number
invariant-loop-number l = fields_part l.number (drop l.number l.fields) ≡ fields_part 0 l.fields
