-- The rows so far are known.
use Rattle.std.proofs.Common.{◌≡◌, Some, map, take}
use Rattle.jm_tables.proofs.field_kinds.all_rows.Given as goal

abbrev pub invariant-loop-row : goal.invariant-loop-row
invariant-loop-row l = map Some l.known.items ≡ take l.row-index l.rows
