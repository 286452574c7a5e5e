use Rattle.std.proofs.Common.{◌≡◌, ◌≤◌, ◌+◌, ◌-◌, [], length, drop}
use Rattle.jm_jasmin_ops.specs.Switches.{lines_of, table_rows}
use Rattle.jm_jasmin_ops.proofs.switch.table_rows.Given as goal

abbrev pub invariant-loop-at : goal.invariant-loop-at
invariant-loop-at l = record {
  within : l.at ≤ length l.tokens;
  so_far : table_rows l.low l.last l.targets (l.words + l.at) (lines_of (drop l.at l.tokens)) ≡ table_rows l.low l.line [] l.words (lines_of l.tokens);
}

abbrev pub decreases-loop-at : goal.decreases-loop-at
decreases-loop-at l = length l.tokens - l.at
