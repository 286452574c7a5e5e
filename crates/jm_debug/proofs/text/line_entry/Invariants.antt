-- The best of the entries that were passed.
use Rattle.std.proofs.Common.{◌≡◌, drop, None}
use Rattle.jm_debug.specs.Texts.{line_entry}
use Rattle.jm_debug.proofs.text.line_entry.Given as goal

abbrev pub invariant-loop-line : goal.invariant-loop-line
invariant-loop-line l = line_entry l.at None l.lines ≡ line_entry l.at l.best (drop l.line-index l.lines)
