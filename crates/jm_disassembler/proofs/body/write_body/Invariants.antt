-- What is written, and the instructions and rows that are left.
use Rattle.std.proofs.Common.{◌≡◌, ◌≤◌, ◌++◌, length, drop}
use Rattle.jm_disassembler.specs.Bodies.{body_text}
use Rattle.jm_disassembler.proofs.body.write_body.Given as goal

abbrev pub invariant-loop-number : goal.invariant-loop-number
invariant-loop-number l =
    (l.at ≤ length l.lines)
    × (l.out.bytes.items ++ body_text l.commented l.marks l.number (drop l.number l.instructions) (drop l.at l.lines)
    ≡ l.initial.out.bytes.items ++ body_text l.commented l.marks 0 l.instructions l.lines)
