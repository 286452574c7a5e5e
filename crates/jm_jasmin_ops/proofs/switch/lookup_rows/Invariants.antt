use Rattle.std.proofs.Common.{◌≡◌, ◌≤◌, ◌+◌, ◌-◌, [], length, drop}
use Rattle.jm_jasmin_ops.specs.Switches.{lines_of, lookup_rows}
use Rattle.jm_jasmin_ops.proofs.switch.lookup_rows.Given as goal

abbrev pub invariant-loop-at : goal.invariant-loop-at
invariant-loop-at l = record {
  within : l.at ≤ length l.tokens;
  so_far : lookup_rows l.last l.pairs (l.words + l.at) (lines_of (drop l.at l.tokens)) ≡ lookup_rows l.line [] l.words (lines_of l.tokens);
}

abbrev pub decreases-loop-at : goal.decreases-loop-at
decreases-loop-at l = length l.tokens - l.at
