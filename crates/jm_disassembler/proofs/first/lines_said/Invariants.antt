-- What the rows that are left say.
use Rattle.std.proofs.Common.{◌≡◌, drop}
use Rattle.jm_disassembler.specs.Bodies.{lines_said}
use Rattle.jm_disassembler.proofs.first.lines_said.Given as goal

abbrev pub invariant-loop-row : goal.invariant-loop-row
invariant-loop-row l = lines_said l.least (drop l.row-index l.lines) ≡ lines_said 0 l.lines
