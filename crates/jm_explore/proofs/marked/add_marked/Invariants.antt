-- What stands so far, and what is left, are the lines.
use Rattle.std.proofs.Common.{◌≡◌, ◌++◌, drop}
use Rattle.jm_explore.specs.Marked.{marked}
use Rattle.jm_explore.proofs.MarkedLines.{left_from}
use Rattle.jm_explore.proofs.marked.add_marked.Given as goal

abbrev pub invariant-loop-byte : goal.invariant-loop-byte
invariant-loop-byte l = l.text.items ++ left_from l.begins l.mark (drop l.byte-index l.bytes) ≡ l.initial.text.items ++ marked l.mark l.bytes
