-- What was merged and the rows that are left have what all have.
use Rattle.std.proofs.Common.{◌≡◌, ℕ, ◌<◌, drop, map}
use Rattle.jm_tables.specs.Tables.{or_number, first_of}
use Rattle.jm_tables.specs.Nodes.{IsThere, IsLonger, found_from, number_of, row_from}
use Rattle.jm_tables.proofs.row.merge_rows.Given as goal

abbrev pub invariant-loop-row : goal.invariant-loop-row
invariant-loop-row l =
    IsLonger l.fn.nodes.items l.nodes.items
    × IsThere l.nodes.items l.levels l.merged
    × ((columns column : ℕ) → column < columns
    → or_number (number_of (found_from l.nodes.items l.levels l.merged column))
    (first_of (map (row_from l.fn.nodes.items columns l.levels) l.roots) (drop l.row-index l.rows) column)
    ≡ first_of (map (row_from l.fn.nodes.items columns l.levels) l.roots) l.rows column)
