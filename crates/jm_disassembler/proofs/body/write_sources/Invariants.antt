-- What is written, and the rows that are left.
use Rattle.std.proofs.Common.{◌≡◌, ◌++◌, drop}
use Rattle.jm_disassembler.specs.Bodies.{source_lines, lines_behind}
use Rattle.jm_disassembler.proofs.body.write_sources.Given as goal

abbrev pub invariant-loop-row : goal.invariant-loop-row
invariant-loop-row l =
    (l.count ≡ l.row-index)
    × (l.out.bytes.items ++ source_lines l.number (drop l.row-index l.lines) ≡ l.initial.out.bytes.items ++ source_lines l.number l.lines)
    × (lines_behind l.number (drop l.row-index l.lines) ≡ lines_behind l.number l.lines)
